-- What the division of polynomials by x^8 + x^4 + x^3 + x + 1 leaves.
use Rattle.std.proofs.Common.{◌≡◌, ℕ, zero, suc, ◌+◌, ◌*◌, ◌^◌, ◌<◌, ◌≤◌, ◌==◌, inl, inr, refl, sym, ◌∙◌, ap, arith}
use Rattle.std.specs.Int.Bits.{bit_xor, xor_zero_l, xor_zero_r, xor_comm, xor_assoc, xor_self}
use Rattle.std.proofs.lemmas.Bool.Decides.{Decides-eqb}
use Rattle.small_fields.specs.Bytes.{coefficient, carryless_product, remainder, byte_product, IsRemainder}
use Rattle.small_fields.specs.Laws.Tests.{all_below-at}
use Rattle.small_fields.specs.Laws.Linear.{IsLinear, linear-zero, bit_cases}
use Rattle.small_fields.specs.Laws.Products.{coefficient-below, carryless_left, zero-times, one-times}
use Rattle.small_fields.specs.Laws.ByteField.{product-below}

-- q times the polynomial
multiple : ℕ → ℕ
multiple q = carryless_product 9 q 0x11B

-- it is linear in q
multiple_linear : IsLinear multiple
unfolding multiple
multiple_linear = carryless_left 9 0x11B

-- x^n times the polynomial
multiple-power : (n : ℕ) → n < 7 → multiple (2 ^ n) ≡ 0x11B * 2 ^ n
unfolding multiple
multiple-power = all_below-at (λ n. multiple (2 ^ n) == 0x11B * 2 ^ n) (λ n. multiple (2 ^ n) ≡ 0x11B * 2 ^ n) (λ n. Decides-eqb (multiple (2 ^ n)) (0x11B * 2 ^ n)) 7 refl

-- and where a bit says whether the power is there
multiple-term : (t n : ℕ) → t < 2 ^ 1 → n < 7 → multiple (t * 2 ^ n) ≡ t * (0x11B * 2 ^ n)
multiple-term t n bit l = elim (bit_cases t bit) [
  | inl e ↦ ap multiple (zero-times t (2 ^ n) e) ∙ linear-zero multiple multiple_linear ∙ sym (zero-times t (0x11B * 2 ^ n) e)
  | inr e ↦ ap multiple (one-times t (2 ^ n) e) ∙ multiple-power n l ∙ sym (one-times t (0x11B * 2 ^ n) e)
]

-- what is taken twice is put back
taken_twice : (t p : ℕ) → bit_xor t (bit_xor p t) ≡ p
taken_twice t p = xor_comm t (bit_xor p t) ∙ xor_assoc p t t ∙ ap (bit_xor p) (xor_self t) ∙ xor_zero_r p

-- a remainder by the polynomial differs from what is divided by a multiple
divided : (n p : ℕ) → n ≤ 7 → (q : ℕ) × (bit_xor (multiple q) (remainder 0x11B n p) ≡ p)
divided zero p l = (0, ap (λ x. bit_xor x p) (linear-zero multiple multiple_linear) ∙ xor_zero_l p)
divided (suc n) p l =
    let c = coefficient p (8 + n) in
    let t = c * (0x11B * 2 ^ n) in
    let rest = remainder 0x11B n (bit_xor p t) in
    let h = divided n (bit_xor p t) (omega arith) in
    let term : multiple (c * 2 ^ n) ≡ t = multiple-term c n (coefficient-below p (8 + n)) (omega arith) in
    let sum : multiple (bit_xor (c * 2 ^ n) h.0) ≡ bit_xor t (multiple h.0) = multiple_linear.adds (c * 2 ^ n) h.0 ∙ ap (λ x. bit_xor x (multiple h.0)) term in
    (bit_xor (c * 2 ^ n) h.0, ap (λ x. bit_xor x rest) sum ∙ xor_assoc t (multiple h.0) rest ∙ ap (bit_xor t) h.1 ∙ taken_twice t p)

-- so the product of bytes is the remainder of their product as polynomials
pub byte_product-remainder : (a b : ℕ) → a < 256 → b < 256 → IsRemainder 0x11B (carryless_product 8 a b) (byte_product a b)
unfolding byte_product multiple
byte_product-remainder a b small_a small_b =
    let h = divided 7 (carryless_product 8 a b) (omega arith) in
    record { quotient = h.0; whole = h.1; small = product-below a b small_a small_b }

-- The product of bytes is linear in each factor.
use Rattle.std.specs.Prelude.{◌≡◌, ℕ, ◌+◌, ◌*◌, ◌/◌, ◌%◌, ◌^◌, ◌<◌}
use Rattle.std.specs.Int.Bits.{bit_xor, xor_zero_l, xor_zero_r, xor_self, xor_shr, xor_mod}
use Rattle.std.proofs.Common.{zero, suc, sym, ◌∙◌, ap, inl, inr, lit<}
use Rattle.std.proofs.lemmas.Nat.{mod_below}
use Rattle.std.proofs.Math.Nat.{one-mul, zero-mul}
use Rattle.small_fields.specs.Bytes.{coefficient, carryless_product, remainder, byte_product}
use Rattle.small_fields.specs.Laws.Linear.{IsLinear, IsBilinear, constant_linear, self_linear, after_linear, sum_linear, shifted_linear, bit_cases}

-- a coefficient is a bit
pub coefficient-below : (p i : ℕ) → coefficient p i < 2 ^ 1
coefficient-below p i = mod_below (p / 2 ^ i) 2 (lit< tt)

-- that of a sum is the sum of the two
coefficient-sum : (p q i : ℕ) → coefficient (bit_xor p q) i ≡ bit_xor (coefficient p i) (coefficient q i)
coefficient-sum p q i = ap (λ t. t % 2) (xor_shr p q i) ∙ xor_mod (p / 2 ^ i) (q / 2 ^ i) 1

pub zero-times : (t m : ℕ) → t ≡ 0 → t * m ≡ 0
zero-times t m e = ap (λ s. s * m) e ∙ zero-mul m

pub one-times : (t m : ℕ) → t ≡ 1 → t * m ≡ m
one-times t m e = ap (λ s. s * m) e ∙ one-mul m

-- a bit times a polynomial is linear in the polynomial
times_linear : (t : ℕ) → t < 2 ^ 1 → IsLinear (λ m. t * m)
times_linear t small = record {
  adds = λ x y. elim (bit_cases t small) [
    | inl e ↦ zero-times t (bit_xor x y) e ∙ sym (ap (λ s. bit_xor s (t * y)) (zero-times t x e) ∙ xor_zero_l (t * y) ∙ zero-times t y e)
    | inr e ↦ one-times t (bit_xor x y) e ∙ sym (ap (λ s. bit_xor s (t * y)) (one-times t x e) ∙ ap (bit_xor x) (one-times t y e))
  ];
}

-- a sum of bits times a polynomial
sum-times : (s t m : ℕ) → s < 2 ^ 1 → t < 2 ^ 1 → bit_xor s t * m ≡ bit_xor (s * m) (t * m)
sum-times s t m small_s small_t = elim (bit_cases s small_s) [
  | inl e ↦ ap (λ u. bit_xor u t * m) e ∙ ap (λ u. u * m) (xor_zero_l t) ∙ sym (ap (λ u. bit_xor u (t * m)) (zero-times s m e) ∙ xor_zero_l (t * m))
  | inr e ↦ elim (bit_cases t small_t) [
    | inl f ↦ ap (λ u. bit_xor s u * m) f ∙ ap (λ u. u * m) (xor_zero_r s) ∙ sym (ap (bit_xor (s * m)) (zero-times t m f) ∙ xor_zero_r (s * m))
    | inr f ↦ ap (λ u. bit_xor s u * m) (f ∙ sym e) ∙ ap (λ u. u * m) (xor_self s) ∙ zero-mul m ∙ sym (ap (λ u. bit_xor (s * m) (u * m)) (f ∙ sym e) ∙ xor_self (s * m))
  ]
]

-- the coefficient of x^i in p, times m, is linear in p
coefficient_linear : (i m : ℕ) → IsLinear (λ p. coefficient p i * m)
coefficient_linear i m = record {
  adds = λ x y. ap (λ t. t * m) (coefficient-sum x y i) ∙ sum-times (coefficient x i) (coefficient y i) m (coefficient-below x i) (coefficient-below y i);
}

-- the product without carries is linear in one factor
pub carryless_left : (n b : ℕ) → IsLinear (λ a. carryless_product n a b)
carryless_left zero b = constant_linear
carryless_left (suc n) b =
    sum_linear (λ a. carryless_product n a b) (λ a. coefficient b n * (a * 2 ^ n)) (carryless_left n b)
    (after_linear (λ m. coefficient b n * m) (λ a. a * 2 ^ n) (times_linear (coefficient b n) (coefficient-below b n)) (shifted_linear n))

-- and in the other
carryless_right : (n a : ℕ) → IsLinear (λ b. carryless_product n a b)
carryless_right zero a = constant_linear
carryless_right (suc n) a =
    sum_linear (λ b. carryless_product n a b) (λ b. coefficient b n * (a * 2 ^ n)) (carryless_right n a) (coefficient_linear n (a * 2 ^ n))

-- a remainder is linear in what is divided
remainder_linear : (m n : ℕ) → IsLinear (λ p. remainder m n p)
remainder_linear m zero = self_linear
remainder_linear m (suc n) =
    after_linear (λ p. remainder m n p) (λ p. bit_xor p (coefficient p (8 + n) * (m * 2 ^ n))) (remainder_linear m n)
    (sum_linear (λ p. p) (λ p. coefficient p (8 + n) * (m * 2 ^ n)) self_linear (coefficient_linear (8 + n) (m * 2 ^ n)))

-- so the product of bytes is linear in each factor
pub product_bilinear : IsBilinear byte_product
unfolding byte_product
product_bilinear = record {
  left = λ b. after_linear (λ p. remainder 0x11B 7 p) (λ a. carryless_product 8 a b) (remainder_linear 0x11B 7) (carryless_left 8 b);
  right = λ a. after_linear (λ p. remainder 0x11B 7 p) (λ b. carryless_product 8 a b) (remainder_linear 0x11B 7) (carryless_right 8 a);
}

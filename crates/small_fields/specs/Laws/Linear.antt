-- Linear functions of polynomials over two elements: what is the same at each power of x is the same.
use Rattle.std.specs.Prelude.{◌≡◌, ℕ, ◌+◌, ◌*◌, ◌/◌, ◌%◌, ◌^◌, ◌<◌, Bool, true, ◌==◌, refl}
use Rattle.std.specs.Int.Bits.{bit_xor, xor_comm, xor_self, xor_assoc, xor_shifted, xor_block, xor_shr}
use Rattle.std.proofs.Common.{zero, suc, sym, ◌∙◌, ap, subst, arith, ◌⊎◌, inl, inr, Decides}
use Rattle.std.proofs.lemmas.Bool.Decides.{Decides-eqb, Decides-below_and}
use Rattle.std.proofs.lemmas.Nat.{shr_split, mod_below, pow_pos, shr_below}
use Rattle.std.proofs.Math.Nat.{one-mul, add-zero}
use Rattle.small_fields.specs.Laws.Tests.{all_below, all_below-at}

-- g turns sums into sums
pub record IsLinear (g : ℕ → ℕ) : Type 0 where
  pub adds : (a b : ℕ) → g (bit_xor a b) ≡ bit_xor (g a) (g b)

-- zero is its own sum with itself
pub linear-zero : (g : ℕ → ℕ) → IsLinear g → g 0 ≡ 0
linear-zero g G = G.adds 0 0 ∙ xor_self (g 0)

-- the functions that are linear: zero, the number itself, one after another, the sum of two, a times x^n
pub constant_linear : IsLinear (λ a. 0)
constant_linear = record { adds = λ x y. refl }

pub self_linear : IsLinear (λ a. a)
self_linear = record { adds = λ x y. refl }

pub after_linear : (g h : ℕ → ℕ) → IsLinear g → IsLinear h → IsLinear (λ a. g (h a))
after_linear g h G H = record { adds = λ x y. ap g (H.adds x y) ∙ G.adds (h x) (h y) }

-- the sum of four numbers in another order
xor_swap : (a b c d : ℕ) → bit_xor (bit_xor a b) (bit_xor c d) ≡ bit_xor (bit_xor a c) (bit_xor b d)
xor_swap a b c d =
    xor_assoc a b (bit_xor c d) ∙ ap (bit_xor a) (sym (xor_assoc b c d) ∙ ap (λ x. bit_xor x d) (xor_comm b c) ∙ xor_assoc c b d) ∙ sym (xor_assoc a c (bit_xor b d))

pub sum_linear : (g h : ℕ → ℕ) → IsLinear g → IsLinear h → IsLinear (λ a. bit_xor (g a) (h a))
sum_linear g h G H = record {
  adds = λ x y. ap (λ t. bit_xor t (h (bit_xor x y))) (G.adds x y) ∙ ap (bit_xor (bit_xor (g x) (g y))) (H.adds x y) ∙ xor_swap (g x) (g y) (h x) (h y);
}

pub shifted_linear : (n : ℕ) → IsLinear (λ a. a * 2 ^ n)
shifted_linear n = record {
  adds = λ x y. let p = pow_pos n in sym (ap (λ t. bit_xor t (y * 2 ^ n)) (sym (add-zero (x * 2 ^ n))) ∙ ap (bit_xor (x * 2 ^ n + 0)) (sym (add-zero (y * 2 ^ n))) ∙ xor_block n x y 0 0 p p ∙ ap (λ t. bit_xor x y * 2 ^ n + t) (xor_self 0) ∙ add-zero (bit_xor x y * 2 ^ n));
}

-- the terms from x^8 on of a linear function
pub high_linear : (g : ℕ → ℕ) → IsLinear g → IsLinear (λ a. g a / 2 ^ 8)
high_linear g G = record { adds = λ x y. ap (λ t. t / 2 ^ 8) (G.adds x y) ∙ xor_shr (g x) (g y) 8 }

-- a bit is zero or one
pub bit_cases : (t : ℕ) → t < 2 ^ 1 → (t ≡ 0) ⊎ (t ≡ 1)
bit_cases zero h = inl refl
bit_cases (suc zero) h = inr refl
bit_cases (suc (suc t)) h = absurd (omega arith)

-- a polynomial of degree below n + 1 is one of degree below n, with x^n or without
top_term : (n a : ℕ) → a < 2 ^ (n + 1) → (a ≡ bit_xor (2 ^ n) (a % 2 ^ n)) ⊎ (a ≡ a % 2 ^ n)
top_term n a h =
    let top : a / 2 ^ n < 2 ^ 1 = shr_below a 1 n (subst (λ m. a < 2 ^ m) (let e : n + 1 ≡ 1 + n = omega arith in e) h) in
    let low : a % 2 ^ n < 2 ^ n = mod_below a (2 ^ n) (pow_pos n) in
    let split : a ≡ (a / 2 ^ n) * 2 ^ n + a % 2 ^ n = sym (shr_split a n) in
    elim (bit_cases (a / 2 ^ n) top) [
      | inl e ↦ inr (split ∙ ap (λ t. t * 2 ^ n + a % 2 ^ n) e ∙ (let z : 0 * 2 ^ n + a % 2 ^ n ≡ a % 2 ^ n = omega arith in z))
      | inr e ↦ inl (split ∙ ap (λ t. t * 2 ^ n + a % 2 ^ n) e ∙ sym (xor_shifted 1 n (a % 2 ^ n) low) ∙ ap (λ t. bit_xor t (a % 2 ^ n)) (one-mul (2 ^ n)))
    ]

-- linear functions that agree on each power of x below x^n agree on each polynomial of degree below n
pub same_linear : (n : ℕ) (g h : ℕ → ℕ) → IsLinear g → IsLinear h → ((i : ℕ) → i < n → g (2 ^ i) ≡ h (2 ^ i)) → (a : ℕ) → a < 2 ^ n → g a ≡ h a
same_linear zero g h G H powers a l =
    let e : a ≡ 0 = omega arith in
    ap g e ∙ linear-zero g G ∙ sym (linear-zero h H) ∙ ap h (sym e)
same_linear (suc n) g h G H powers a l =
    let low : a % 2 ^ n < 2 ^ n = mod_below a (2 ^ n) (pow_pos n) in
    let rest = same_linear n g h G H (λ i k. powers i (omega arith)) (a % 2 ^ n) low in
    elim (top_term n a (subst (λ m. a < 2 ^ m) (let e : suc n ≡ n + 1 = omega arith in e) l)) [
      | inl e ↦ ap g e ∙ G.adds _ _ ∙ ap (λ x. bit_xor x (g (a % 2 ^ n))) (powers n (omega arith)) ∙ ap (bit_xor (h (2 ^ n))) rest ∙ sym (H.adds _ _) ∙ ap h (sym e)
      | inr e ↦ ap g e ∙ rest ∙ ap h (sym e)
    ]

-- the test that g and h agree on each power of x below x^n
abbrev pub same_powers : ℕ → (ℕ → ℕ) → (ℕ → ℕ) → Bool
same_powers n g h = all_below (λ i. g (2 ^ i) == h (2 ^ i)) n

-- what the test says
Decides-same_powers : (n : ℕ) (g h : ℕ → ℕ) → Decides (same_powers n g h) ((i : ℕ) → i < n → g (2 ^ i) ≡ h (2 ^ i))
Decides-same_powers n g h =
    Decides-below_and (λ i. g (2 ^ i) == h (2 ^ i)) (λ i. g (2 ^ i) ≡ h (2 ^ i)) (λ n. same_powers n g h) (λ i. Decides-eqb (g (2 ^ i)) (h (2 ^ i))) refl (λ _. refl) n

-- so the test shows that g and h agree below 2 ^ n
pub same_by_powers : (n : ℕ) (g h : ℕ → ℕ) → IsLinear g → IsLinear h → same_powers n g h ≡ true → (a : ℕ) → a < 2 ^ n → g a ≡ h a
same_by_powers n g h G H test = same_linear n g h G H ((Decides-same_powers n g h).0 test)

-- g is linear in each of its two arguments
pub record IsBilinear (g : ℕ → ℕ → ℕ) : Type 0 where
  pub left : (b : ℕ) → IsLinear (λ a. g a b)
  pub right : (a : ℕ) → IsLinear (λ b. g a b)

-- the test that g and h agree on each two powers of x below x^8
abbrev pub same_products : (ℕ → ℕ → ℕ) → (ℕ → ℕ → ℕ) → Bool
same_products g h = all_below (λ i. same_powers 8 (g (2 ^ i)) (h (2 ^ i))) 8

-- and so the test shows that they agree on all bytes
pub same_bilinear : (g h : ℕ → ℕ → ℕ) → IsBilinear g → IsBilinear h → same_products g h ≡ true → (a b : ℕ) → a < 2 ^ 8 → b < 2 ^ 8 → g a b ≡ h a b
same_bilinear g h G H test a b small_a small_b =
    let P : ℕ → ℕ → Type 0 = λ i j. g (2 ^ i) (2 ^ j) ≡ h (2 ^ i) (2 ^ j) in
    let each : (i : ℕ) → Decides (same_powers 8 (g (2 ^ i)) (h (2 ^ i))) ((j : ℕ) → j < 8 → P i j) = λ i. Decides-same_powers 8 (g (2 ^ i)) (h (2 ^ i)) in
    same_linear 8 (λ x. g x b) (λ x. h x b) (G.left b) (H.left b)
    (λ i l. same_linear 8 (g (2 ^ i)) (h (2 ^ i)) (G.right (2 ^ i)) (H.right (2 ^ i)) (all_below-at (λ i. same_powers 8 (g (2 ^ i)) (h (2 ^ i))) (λ i. (j : ℕ) → j < 8 → P i j) each 8 test i l) b small_b) a small_a

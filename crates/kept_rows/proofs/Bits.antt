-- Bits as the scalars of a field of two elements: sums and products modulo 2 are those of the scalars.
use Rattle.std.specs.Prelude.{◌==◌, if◌then◌else◌}
use Rattle.std.proofs.Common.{Bool, true, false, ◌≡◌, ◌⊎◌, get_or, drop, ℕ, zero, suc, ◌+◌, ◌*◌, ◌%◌, ◌<◌, inl, inr, List, [], ◌∷◌, All}
use Rattle.std.proofs.Common.{length, replicate, refl, sym, ap, ap₂, ◌∙◌, arith}
use Rattle.std.proofs.Math.ListN.{set}
use Rattle.std.proofs.Math.Nat.{mod-lt}
use Rattle.std.proofs.lemmas.Bool.{cases_eq}
use Rattle.std.proofs.lemmas.List.{map-set}
use Rattle.std.proofs.lemmas.List.Elements.{All-nil, All-cons, All-head, All-tail, All-set, All-replicate}
use Rattle.linear_algebra.specs.Scalars.{Scalars, IsScalar, IsField}
use Rattle.linear_algebra.specs.Vectors.{vector_sum, multiple}
use Rattle.linear_algebra.proofs.Elements.{product-zero}
use Rattle.field_core.proofs.Zeros.{map-replicate}
use Rattle.small_fields.specs.Modular.{modulo}
use Rattle.kept_rows.specs.Kept.{scalar_of, unpacked}

-- each element is a bit
abbrev pub AreBits : List ℕ → Type 0
AreBits v = All (λ b. b < 2) v

-- ---- what leaves bits

pub zeros-bits : (n : ℕ) → AreBits (replicate n 0)
zeros-bits n = All-replicate (λ b. b < 2) n 0 (omega arith)

pub set-bits : (v : List ℕ) (i b : ℕ) → b < 2 → AreBits v → AreBits (set v i b)
set-bits v i b l are = All-set (λ b. b < 2) v i b l are

pub sum-bits : (u v : List ℕ) → AreBits (vector_sum (modulo 2) u v)
unfolding vector_sum
sum-bits [] v = All-nil (λ b. b < 2)
sum-bits (a ∷ u) [] = All-nil (λ b. b < 2)
sum-bits (a ∷ u) (b ∷ v) = All-cons (λ b. b < 2) ((a + b) % 2) (vector_sum (modulo 2) u v) (omega arith) (sum-bits u v)

pub multiple-bits : (c : ℕ) (v : List ℕ) → AreBits (multiple (modulo 2) c v)
multiple-bits c [] = All-nil (λ b. b < 2)
multiple-bits c (a ∷ v) = All-cons (λ b. b < 2) ((c * a) % 2) (multiple (modulo 2) c v) (mod-lt (c * a) (omega arith)) (multiple-bits c v)

-- ---- what the scalars are

module _ (S : Scalars) (F : IsField S) where
  zero_or_one_in : (t : Bool) → IsScalar S (if t then S.one else S.zero)
  zero_or_one_in true = F.one_in
  zero_or_one_in false = F.zero_in

  pub scalar-in : (b : ℕ) → IsScalar S (scalar_of S b)
  scalar-in b = zero_or_one_in (b == 1)

  pub unpacked-in : (v : List ℕ) → All (IsScalar S) (unpacked S v)
  unpacked-in [] = All-nil (IsScalar S)
  unpacked-in (b ∷ v) = All-cons (IsScalar S) (scalar_of S b) (unpacked S v) (scalar-in b) (unpacked-in v)

  pub unpacked-zeros : (n : ℕ) → unpacked S (replicate n 0) ≡ replicate n S.zero
  unpacked-zeros n = map-replicate (scalar_of S) n 0

  pub unpacked-set : (v : List ℕ) (i b : ℕ) → unpacked S (set v i b) ≡ set (unpacked S v) i (scalar_of S b)
  unpacked-set v i b = map-set (scalar_of S) v i b

  bit_is_zero : (b : ℕ) → b < 2 → scalar_of S b ≡ S.zero → b ≡ 0
  bit_is_zero zero l e = refl
  bit_is_zero (suc zero) l e = absurd (F.one≢zero e)
  bit_is_zero (suc (suc b)) l e = absurd (omega arith)

  -- only zeros stand for zeros
  pub zeros_from_unpacked : (v : List ℕ) → AreBits v → unpacked S v ≡ replicate (length v) S.zero → v ≡ replicate (length v) 0
  zeros_from_unpacked [] are e = refl
  zeros_from_unpacked (b ∷ v) are e =
      ap₂ (λ x xs. x ∷ xs)
      (bit_is_zero b (All-head (λ b. b < 2) b v are) (ap (λ t. get_or t 0 S.zero) e))
      (zeros_from_unpacked v (All-tail (λ b. b < 2) b v are) (ap (drop 1) e))

  zero-times : (x : ℕ) → IsScalar S x → S.product S.zero x ≡ S.zero
  zero-times x h = F.product_comm S.zero x F.zero_in h ∙ product-zero S F x h

  product-bit : (a b : ℕ) → a < 2 → b < 2 → scalar_of S ((a * b) % 2) ≡ S.product (scalar_of S a) (scalar_of S b)
  product-bit zero zero l m = sym (zero-times S.zero F.zero_in)
  product-bit zero (suc zero) l m = sym (zero-times S.one F.one_in)
  product-bit (suc zero) zero l m = sym (product-zero S F S.one F.one_in)
  product-bit (suc zero) (suc zero) l m = sym (F.product-one S.one F.one_in)
  product-bit zero (suc (suc b)) l m = absurd (omega arith)
  product-bit (suc zero) (suc (suc b)) l m = absurd (omega arith)
  product-bit (suc (suc a)) b l m = absurd (omega arith)

  pub unpacked-multiple : (c : ℕ) (v : List ℕ) → c < 2 → AreBits v →
      unpacked S (multiple (modulo 2) c v) ≡ multiple S (scalar_of S c) (unpacked S v)
  unpacked-multiple c [] l are = refl
  unpacked-multiple c (b ∷ v) l are =
      ap₂ (λ x xs. x ∷ xs) (product-bit c b l (All-head (λ b. b < 2) b v are)) (unpacked-multiple c v l (All-tail (λ b. b < 2) b v are))

  module _ (two : S.order ≡ 2) where
    pub zero_or_one : (x : ℕ) → IsScalar S x → (x ≡ S.zero) ⊎ (x ≡ S.one)
    zero_or_one x h = elim (cases_eq x S.zero) [
      | inl e ↦ inl e
      | inr apart ↦ inr (omega (arith, two, h, apart, F.zero_in, F.one_in, F.one≢zero))
    ]

    one_and_one : S.sum S.one S.one ≡ S.zero
    one_and_one =
        let n = F.negative S.one F.one_in in
        elim (zero_or_one n.0 n.1) [
          | inl e ↦ absurd (F.one≢zero (sym (F.sum-zero S.one F.one_in) ∙ ap (S.sum S.one) (sym e) ∙ n.2))
          | inr e ↦ ap (S.sum S.one) (sym e) ∙ n.2
        ]

    sum-bit : (a b : ℕ) → a < 2 → b < 2 → scalar_of S ((a + b) % 2) ≡ S.sum (scalar_of S a) (scalar_of S b)
    sum-bit zero zero l m = sym (F.sum-zero S.zero F.zero_in)
    sum-bit zero (suc zero) l m = sym (F.sum_comm S.zero S.one F.zero_in F.one_in ∙ F.sum-zero S.one F.one_in)
    sum-bit (suc zero) zero l m = sym (F.sum-zero S.one F.one_in)
    sum-bit (suc zero) (suc zero) l m = sym one_and_one
    sum-bit zero (suc (suc b)) l m = absurd (omega arith)
    sum-bit (suc zero) (suc (suc b)) l m = absurd (omega arith)
    sum-bit (suc (suc a)) b l m = absurd (omega arith)

    pub unpacked-sum : (u v : List ℕ) → AreBits u → AreBits v →
        unpacked S (vector_sum (modulo 2) u v) ≡ vector_sum S (unpacked S u) (unpacked S v)
    unfolding vector_sum
    unpacked-sum [] v are both = refl
    unpacked-sum (a ∷ u) [] are both = refl
    unpacked-sum (a ∷ u) (b ∷ v) are both =
        ap₂ (λ x xs. x ∷ xs)
        (sum-bit a b (All-head (λ b. b < 2) a u are) (All-head (λ b. b < 2) b v both))
        (unpacked-sum u v (All-tail (λ b. b < 2) a u are) (All-tail (λ b. b < 2) b v both))

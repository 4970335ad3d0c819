-- A vector that is not zero has one first coordinate at which it is not zero.
use Rattle.std.proofs.Common.{◌≡◌, ◌≢◌, ℕ, zero, suc, ◌<◌, ◌⊎◌, inl, inr, List, [], ◌∷◌, length, get_or, refl, ap, ap₂, ◌∙◌, arith}
use Rattle.std.proofs.Math.Decide.{ℕ_discrete, dec_lt}
use Rattle.linear_algebra.specs.Scalars.{Scalars}
use Rattle.linear_algebra.specs.Vectors.{IsVector, zero_vector}
use Rattle.quotient_spaces.specs.Projections.{IsPivot, IsFirstPivot}

module _ (S : Scalars) where
  later_pivot : (a : ℕ) (p : List ℕ) → a ≡ S.zero → (i : ℕ) × IsFirstPivot S p i → (i : ℕ) × IsFirstPivot S (a ∷ p) i
  later_pivot a p e r = (
    suc r.0,
    record {
      pivot = record { in_range = (let h = r.1.pivot.in_range in omega arith); not_zero = r.1.pivot.not_zero };
      zeros_before = before;
    },
  )
    where
      before : (k : ℕ) → k < suc r.0 → get_or (a ∷ p) k S.zero ≡ S.zero
      before zero h = e
      before (suc k) h = r.1.zeros_before k (omega arith)

  -- a list has a first pivot, or is zeros
  pub pivot_or_zero : (p : List ℕ) → ((i : ℕ) × IsFirstPivot S p i) ⊎ (p ≡ zero_vector S (length p))
  pivot_or_zero [] = inr refl
  pivot_or_zero (a ∷ p) = go (ℕ_discrete a S.zero) (pivot_or_zero p)
    where
      go : Dec (a ≡ S.zero) → ((i : ℕ) × IsFirstPivot S p i) ⊎ (p ≡ zero_vector S (length p)) → ((i : ℕ) × IsFirstPivot S (a ∷ p) i) ⊎ (a ∷ p ≡ zero_vector S (suc (length p)))
      go (no n) r = inl (0, record { pivot = record { in_range = omega arith; not_zero = n }; zeros_before = λ k h. absurd (omega arith) })
      go (yes e) (inl r) = inl (later_pivot a p e r)
      go (yes e) (inr z) = inr (ap₂ (λ x y. x ∷ y) e z)

  -- a vector that is not zero has a first pivot
  pub first_pivot_exists : (d : ℕ) (p : List ℕ) → IsVector S d p → p ≢ zero_vector S d → (i : ℕ) × IsFirstPivot S p i
  first_pivot_exists d p h n = elim (pivot_or_zero p) [ inl r ↦ r | inr z ↦ absurd (n (z ∙ ap (zero_vector S) h.length_is)) ]

  -- and no other
  pub first_pivot_unique : (p : List ℕ) (i j : ℕ) → IsFirstPivot S p i → IsFirstPivot S p j → i ≡ j
  first_pivot_unique p i j a b = go (dec_lt i j) (dec_lt j i)
    where
      go : Dec (i < j) → Dec (j < i) → i ≡ j
      go (yes l) r = absurd (a.pivot.not_zero (b.zeros_before i l))
      go (no n) (yes l) = absurd (b.pivot.not_zero (a.zeros_before j l))
      go (no n) (no m) = omega arith

  -- and only one that is not zero has one
  pub pivot_not_zero : (d : ℕ) (p : List ℕ) (i : ℕ) → IsPivot S p i → p ≢ zero_vector S d
  pivot_not_zero d p i k e = k.not_zero (ap (λ v. get_or v i S.zero) e ∙ zeros d i)
    where
      zeros : (n k : ℕ) → get_or (zero_vector S n) k S.zero ≡ S.zero
      zeros zero k = refl
      zeros (suc n) zero = refl
      zeros (suc n) (suc k) = zeros n k

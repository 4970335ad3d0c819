-- The steps that a basis keeps, and what a vector becomes by them.
use Rattle.std.specs.Prelude.{◌≡◌, ℕ, ◌+◌, ◌<◌, List, [], ◌∷◌, ◌++◌, length, take, slice_index, slice_index_or}
use Rattle.linear_algebra.specs.Scalars.{Scalars, IsScalar}
use Rattle.linear_algebra.specs.Vectors.{IsVector, zero_vector, vector_sum, multiple}
use Rattle.linear_algebra.specs.Spans.{combination, IsIndependent}
use Rattle.echelon.specs.Leads.{LeadsAt}
use Rattle.echelon.specs.declared.step.Step.{Step}

-- v with the multiple of the row added that makes it zero at the pivot
abbrev pub eliminated : {X : Type 0} → Scalars → Step X → List ℕ → List ℕ
eliminated S s v = vector_sum S v (multiple S (slice_index v s.pivot) s.row)

-- v after each step
unfoldable pub reduced : {X : Type 0} → Scalars → List (Step X) → List ℕ → List ℕ
reduced S [] v = v
reduced S (s ∷ ss) v = reduced S ss (eliminated S s v)

-- the vectors that were taken
abbrev pub taken : {X : Type 0} → List (Step X) → List (List ℕ)
taken [] = []
taken (s ∷ ss) = s.vector ∷ taken ss

-- what holds of the step at index i
pub record IsStep {X : Type 0} (S : Scalars) (d : ℕ) (ss : List (Step X)) (i : ℕ) (s : Step X) : Type 0 where
  pub vector : IsVector S d s.vector
  pub row : IsVector S d s.row
  pub coefficients : IsVector S (i + 1) s.coefficients
  pub made : combination S d s.coefficients (taken ss) ≡ s.row
  pub minus_one : S.sum S.one (slice_index s.row s.pivot) ≡ S.zero
  pub leads : LeadsAt S s.row s.pivot
  pub zero_at_earlier : (j : ℕ) (d' : Step X) → j < i → slice_index s.row (slice_index_or ss j d').pivot ≡ S.zero
  pub removes : reduced S (take (i + 1) ss) s.vector ≡ zero_vector S d

-- each step holds at its index, and the vectors that were taken are independent
pub record IsEchelon {X : Type 0} (S : Scalars) (d : ℕ) (ss : List (Step X)) : Type 0 where
  pub steps : (i : ℕ) (s : Step X) → i < length ss → IsStep S d ss i (slice_index_or ss i s)
  pub independent : IsIndependent S d (taken ss)

-- the step of v, which the rows leave as rest: its row is rest times what makes it minus one at the pivot
pub record IsNextStep {X : Type 0} (S : Scalars) (v rest : List ℕ) (p : ℕ) (cs : List ℕ) (s : Step X) : Type 0 where
  pub factor : ℕ
  pub scalar : IsScalar S factor
  pub minus_one : S.sum S.one (S.product factor (slice_index rest p)) ≡ S.zero
  pub vector : s.vector ≡ v
  pub pivot : s.pivot ≡ p
  pub row : s.row ≡ multiple S factor rest
  pub coefficients : s.coefficients ≡ multiple S factor cs ++ factor ∷ []

-- ds is minus cs
pub record IsNegated (S : Scalars) (cs ds : List ℕ) : Type 0 where
  pub factor : ℕ
  pub scalar : IsScalar S factor
  pub minus_one : S.sum S.one factor ≡ S.zero
  pub negated : ds ≡ multiple S factor cs

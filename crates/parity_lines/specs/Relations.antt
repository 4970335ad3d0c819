-- The relation that is made of coefficients of a vector over those before it.
use Rattle.std.specs.Prelude.{◌≡◌, ℕ, ◌<◌, List, ◌∷◌, ◌++◌, length, slice_index}
use Rattle.linear_algebra.specs.Scalars.{Scalars, IsScalar}
use Rattle.linear_algebra.specs.Vectors.{zero_vector, multiple}

-- r is the coefficients, minus one and so many zeros
pub record IsDifference (S : Scalars) (cs : List ℕ) (zeros : ℕ) (r : List ℕ) : Type 0 where
  pub minus : ℕ
  pub minus_in : IsScalar S minus
  pub minus_one : S.sum S.one minus ≡ S.zero
  pub is : r ≡ cs ++ minus ∷ zero_vector S zeros

-- b is the inverse of the first entry of v that isn't zero
pub record IsLeadInverse (S : Scalars) (v : List ℕ) (b : ℕ) : Type 0 where
  pub lead : ℕ
  pub within : lead < length v
  pub inverse : S.product (slice_index v lead) b ≡ S.one
  pub zero_before : (k : ℕ) → k < lead → slice_index v k ≡ S.zero

-- w is a multiple of v, and its first entry that isn't zero is one
pub record IsMonicMultiple (S : Scalars) (v w : List ℕ) : Type 0 where
  pub factor : ℕ
  pub factor_in : IsScalar S factor
  pub is_multiple : w ≡ multiple S factor v
  pub lead : ℕ
  pub within : lead < length w
  pub one : slice_index w lead ≡ S.one
  pub zero_before : (k : ℕ) → k < lead → slice_index w k ≡ S.zero

-- r is such a multiple of the coefficients, minus one and so many zeros
pub record IsMonicRelation (S : Scalars) (cs : List ℕ) (zeros : ℕ) (r : List ℕ) : Type 0 where
  pub row : List ℕ
  pub difference : IsDifference S cs zeros row
  pub monic : IsMonicMultiple S row r

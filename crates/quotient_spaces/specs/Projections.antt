-- Vectors modulo the multiples of a vector p, one coordinate shorter.
use Rattle.std.specs.List.{AllZip, insert, remove}
use Rattle.std.specs.Prelude.{◌≡◌, ◌≢◌, ℕ, ◌<◌, List, length, get_or}
use Rattle.linear_algebra.specs.Scalars.{Scalars, IsScalar}
use Rattle.linear_algebra.specs.Vectors.{vector_sum, multiple}

-- i is a coordinate at which p is not zero
pub record IsPivot (S : Scalars) (p : List ℕ) (i : ℕ) : Type 0 where
  pub in_range : i < length p
  pub not_zero : get_or p i S.zero ≢ S.zero

-- the first one
pub record IsFirstPivot (S : Scalars) (p : List ℕ) (i : ℕ) : Type 0 where
  pub pivot : IsPivot S p i
  pub zeros_before : (k : ℕ) → k < i → get_or p k S.zero ≡ S.zero

-- w is v plus c times p without coordinate i, for the scalar c for which that coordinate is zero
pub record IsProjection (S : Scalars) (p : List ℕ) (i : ℕ) (v w : List ℕ) : Type 0 where
  pub factor : ℕ
  pub is_scalar : IsScalar S factor
  pub clears : S.sum (S.product factor (get_or p i S.zero)) (get_or v i S.zero) ≡ S.zero
  pub gives : w ≡ remove (vector_sum S v (multiple S factor p)) i

-- each of ws is the projection of the one of vs at its place
abbrev pub AreProjections : Scalars → List ℕ → ℕ → List (List ℕ) → List (List ℕ) → Type 0
AreProjections S p i vs ws = AllZip (IsProjection S p i) vs ws

-- w with zero put in at coordinate i
abbrev pub lifted : Scalars → ℕ → List ℕ → List ℕ
lifted S i w = insert w i S.zero

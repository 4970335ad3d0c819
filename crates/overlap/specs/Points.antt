-- The point that two lists of coordinates have.
use Rattle.std.specs.Prelude.{◌≡◌, ℕ, ◌+◌, ◌*◌, ◌<◌, List, length}
use Rattle.linear_algebra.specs.Scalars.{Scalars, IsScalar}
use Rattle.linear_algebra.specs.Spans.{combination}
use Rattle.overlap.specs.Pairs.{HasPairAt, IsRatioAt, AreKept}
use Rattle.parity_lines.specs.Problems.{ParityProblem, vectors_at}

-- at index i both have a pair that isn't zero
pub record HaveBothAt (S : Scalars) (cs ds : List ℕ) (i : ℕ) : Type 0 where
  pub within : 2 * i + 1 < length cs
  pub first : HasPairAt S cs i
  pub second : HasPairAt S ds i

-- x combines the vectors of M by those pairs of cs of which ds has a fixed multiple, which is told by one index
pub record IsPointOf (S : Scalars) (p : ParityProblem) (M cs ds x : List ℕ) : Type 0 where
  pub index : ℕ
  pub both : HaveBothAt S cs ds index
  pub ratio : ℕ
  pub is_scalar : IsScalar S ratio
  pub is_ratio : IsRatioAt S ratio cs ds index
  pub kept : List ℕ
  pub are_kept : AreKept S ratio cs ds kept
  pub combines : x ≡ combination S p.dimension kept (vectors_at p M)

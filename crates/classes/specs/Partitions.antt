-- What the partition of a family answers, and how the family grows.
use Rattle.std.specs.Prelude.{◌≡◌, ℕ, suc, List, ◌++◌}
use Rattle.families.specs.Families.{IsCommon, IsFamily, SetFamily}
use Rattle.linear_algebra.specs.Scalars.{Scalars}
use Rattle.linear_algebra.specs.Vectors.{IsVector, zero_vector}
use Rattle.parity_lines.specs.Problems.{ParityProblem}
use Rattle.classes.specs.Divisions.{ArePartsOfBound}
use Rattle.classes.specs.Ends.{IsOverlapping, IsSetOf}
use Rattle.classes.specs.declared.outcome.Classes.{Classes}
use Rattle.classes.specs.declared.outcome.Classes.TheVariants.{Parts, Larger, Overlapping}

-- no vector but zero is in the span of every set
abbrev pub HasNoCommon : Scalars → SetFamily → Type 0
HasNoCommon S f = (v : List ℕ) → IsVector S f.problem.dimension v → IsCommon S f v → v ≡ zero_vector S f.problem.dimension

-- the old sets stay in front; it is a family still, no vector but zero is common, and its sets are of the old size
pub record HasGrown (S : Scalars) (before after : SetFamily) : Type 0 where
  pub problem : after.problem ≡ before.problem
  pub added : List (List ℕ)
  pub sets : after.sets ≡ before.sets ++ added
  pub family : IsFamily S after
  pub no_common : HasNoCommon S after

-- parts of bound k, an independent set of k + 1 lines, or an overlap of one of k lines
abbrev pub TellsClasses : Scalars → ParityProblem → ℕ → Classes → Type 0
TellsClasses S p k (Parts parts) = ArePartsOfBound S p k parts
TellsClasses S p k (Larger L) = IsSetOf S p (suc k) L
TellsClasses S p k (Overlapping M e h) = IsOverlapping S p k M e h

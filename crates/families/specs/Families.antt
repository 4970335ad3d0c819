-- Families of independent sets of lines, all of one size, and what their spans have in common.
use Rattle.std.specs.Prelude.{◌≡◌, ◌≢◌, ℕ, ◌<◌, List, [], All, length, take, slice_index_or}
use Rattle.linear_algebra.specs.Scalars.{Scalars}
use Rattle.linear_algebra.specs.Spans.{InSpan}
use Rattle.parity_lines.specs.LineSets.{IsIndependentSet}
use Rattle.parity_lines.specs.Problems.{ParityProblem, vectors_at}

-- a problem, and a list of sets of its lines
pub record SetFamily : Type 0 where
  pub problem : ParityProblem
  pub sets : List (List ℕ)

-- there is a set; the sets are independent, and all of one size
pub record IsFamily (S : Scalars) (f : SetFamily) : Type 0 where
  pub nonempty : f.sets ≢ []
  pub independent : All (IsIndependentSet S f.problem) f.sets
  pub size : ℕ
  pub sizes : All (λ set. length set ≡ size) f.sets

-- the vectors of the set's lines span v
abbrev pub Spans : Scalars → ParityProblem → List ℕ → List ℕ → Type 0
Spans S p v set = InSpan S p.dimension (vectors_at p set) v

-- every set of the family spans v
abbrev pub IsCommon : Scalars → SetFamily → List ℕ → Type 0
IsCommon S f v = All (Spans S f.problem v) f.sets

-- the set at i doesn't span v, and each set before it does
pub record IsFirstMissing (S : Scalars) (f : SetFamily) (v : List ℕ) (i : ℕ) : Type 0 where
  pub within : i < length f.sets
  pub outside : ¬ (Spans S f.problem v (slice_index_or f.sets i []))
  pub before : All (Spans S f.problem v) (take i f.sets)

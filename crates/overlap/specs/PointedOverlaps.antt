-- Overlaps with their points.
use Rattle.std.specs.Prelude.{◌≡◌, ◌≢◌, ℕ, ◌<◌, ◌⊎◌, List, length, None}
use Rattle.std.specs.List.{Contains}
use Rattle.linear_algebra.specs.Scalars.{Scalars}
use Rattle.linear_algebra.specs.Spans.{InSpan, IsIndependent}
use Rattle.linear_algebra.specs.Vectors.{IsVector, zero_vector}
use Rattle.matching_state.specs.Overlaps.{IsOverlap}
use Rattle.matching_state.specs.DirectSteps.{TellsDirectStep}
use Rattle.parity_lines.specs.LineSets.{IsLineSet, IsIndependentSet}
use Rattle.parity_lines.specs.Problems.{ParityProblem, vectors_at}

-- a problem with a set of its lines, two lines and a vector
pub record PointedOverlap : Type 0 where
  pub problem : ParityProblem
  pub set : List ℕ
  pub first : ℕ
  pub second : ℕ
  pub point : List ℕ

-- each line of Y is one of M, or e or h
abbrev pub AreAmong : List ℕ → ℕ → ℕ → List ℕ → Type 0
AreAmong M e h Y = (l : ℕ) → Contains Y l → Contains M l ⊎ ((l ≡ e) ⊎ (l ≡ h))

-- each set of lines among M, e and h that is dependent spans x
abbrev pub IsSpannedByDependentSets : Scalars → ParityProblem → List ℕ → ℕ → ℕ → List ℕ → Type 0
IsSpannedByDependentSets S p M e h x = (Y : List ℕ) → IsLineSet p Y → AreAmong M e h Y → ¬ (IsIndependent S p.dimension (vectors_at p Y)) →
    InSpan S p.dimension (vectors_at p Y) x

-- x is a vector, but zero, that each such set spans
pub record IsPoint (S : Scalars) (p : ParityProblem) (M : List ℕ) (e h : ℕ) (x : List ℕ) : Type 0 where
  pub vector : IsVector S p.dimension x
  pub not_zero : x ≢ zero_vector S p.dimension
  pub spanned : IsSpannedByDependentSets S p M e h x

-- the set is independent and no direct step leads on; the two lines are an overlap of it; the vector is a point of it
pub record IsPointed (S : Scalars) (o : PointedOverlap) : Type 0 where
  pub independent : IsIndependentSet S o.problem o.set
  pub no_step : TellsDirectStep S o.problem o.set None
  pub first_within : o.first < length o.problem.lines
  pub second_within : o.second < length o.problem.lines
  pub overlap : IsOverlap S o.problem o.set o.first o.second
  pub point : IsPoint S o.problem o.set o.first o.second o.point

-- o is an overlap of e and h over M
pub record IsOverlapAt (p : ParityProblem) (M : List ℕ) (e h : ℕ) (o : PointedOverlap) : Type 0 where
  pub problem : o.problem ≡ p
  pub set : o.set ≡ M
  pub first : o.first ≡ e
  pub second : o.second ≡ h

-- o is an overlap over M
pub record IsOverlapOf (S : Scalars) (p : ParityProblem) (M : List ℕ) (o : PointedOverlap) : Type 0 where
  pub problem : o.problem ≡ p
  pub set : o.set ≡ M
  pub overlap : IsOverlap S p M o.first o.second

-- What ends the call: a longer set, or a set with an overlap from which no direct step leads on.
use Rattle.std.specs.Prelude.{◌≡◌, ℕ, suc, ◌<◌, List, length, None}
use Rattle.linear_algebra.specs.Scalars.{Scalars}
use Rattle.matching_state.specs.Overlaps.{IsOverlap}
use Rattle.matching_state.specs.DirectSteps.{TellsDirectStep}
use Rattle.classes.specs.declared.ended.Ended.{Ended}
use Rattle.classes.specs.declared.ended.Ended.TheVariants.{Larger, Overlapping}
use Rattle.parity_lines.specs.LineSets.{IsIndependentSet}
use Rattle.parity_lines.specs.Problems.{ParityProblem}

-- M is an independent set of k lines
pub record IsSetOf (S : Scalars) (p : ParityProblem) (k : ℕ) (M : List ℕ) : Type 0 where
  pub independent : IsIndependentSet S p M
  pub size : length M ≡ k

-- the lines e and h are an overlap of the set M of k lines, from which no direct step leads on
pub record IsOverlapping (S : Scalars) (p : ParityProblem) (k : ℕ) (M : List ℕ) (e h : ℕ) : Type 0 where
  pub set : IsSetOf S p k M
  pub no_step : TellsDirectStep S p M None
  pub first_within : e < length p.lines
  pub second_within : h < length p.lines
  pub overlap : IsOverlap S p M e h

-- a set of k + 1 lines, or such an overlap
abbrev pub TellsEnd : Scalars → ParityProblem → ℕ → Ended → Type 0
TellsEnd S p k (Larger L) = IsSetOf S p (suc k) L
TellsEnd S p k (Overlapping M e h) = IsOverlapping S p k M e h

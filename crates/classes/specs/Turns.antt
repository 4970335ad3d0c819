-- What a turn starts from, and what it gives.
use Rattle.std.specs.Prelude.{◌≡◌, ◌⊎◌, ℕ, ◌<◌, List, [], Bool, false, length, slice_index_or}
use Rattle.class_theory.proofs.Families.{FreeBelow, Grows}
use Rattle.class_theory.proofs.Labels.{AreExact}
use Rattle.families.specs.Families.{SetFamily}
use Rattle.linear_algebra.specs.Scalars.{Scalars, IsField}
use Rattle.linear_algebra.proofs.Coordinates.{space}
use Rattle.matching_state.specs.Overlaps.{InSupport}
use Rattle.matching_state.specs.LinePlaces.{IsExposed}
use Rattle.parity_lines.proofs.Border.{tuples_at}
use Rattle.parity_lines.specs.Problems.{ParityProblem}
use Rattle.classes.specs.ClassLabels.{AreLabels}
use Rattle.classes.specs.Crossings.{TellsCrossing}
use Rattle.classes.specs.Divisions.{class_list}
use Rattle.classes.specs.Ends.{IsSetOf}
use Rattle.classes.specs.Missed.{IsOfLine}
use Rattle.classes.specs.Partitions.{HasNoCommon, TellsClasses}
use Rattle.classes.specs.Spreads.{IsIn}
use Rattle.classes.specs.Tables.{IsTableOf, Separators, akin_at}
use Rattle.classes.specs.declared.crossing.Crossing.{Crossing}
use Rattle.classes.specs.declared.turned.Turned.{Turned}
use Rattle.classes.specs.declared.turned.Turned.TheVariants.{Ended, Grown}

-- how long the sets of a family are
abbrev pub size_of : SetFamily → ℕ
size_of f = length (slice_index_or f.sets 0 [])

-- no vector but zero is common to the sets of f, and t is their table
pub record IsTurn (S : Scalars) (F : IsField S) (f : SetFamily) (t : Separators) : Type 0 where
  pub none : HasNoCommon S f
  pub table : IsTableOf S F f.problem f.sets t

-- the labels of akin lines, which make classes
pub record AreClasses (n : ℕ) (akin : ℕ → ℕ → Bool) (labels : List ℕ) : Type 0 where
  pub told : AreLabels n akin labels
  pub exact : AreExact n akin

-- M is an independent set of k lines that separates two akin lines, or a line is free over it
pub record IsGrowth (S : Scalars) (F : IsField S) (p : ParityProblem) (k : ℕ) (t : Separators) (M : List ℕ) : Type 0 where
  pub set : IsSetOf S p k M
  pub separates : FreeBelow (space S F p.dimension) (tuples_at S F p) (length p.lines) M ⊎ Grows (space S F p.dimension) (tuples_at S F p)
      (length p.lines) (akin_at t) M

-- the end of the call, or such a set
abbrev pub TellsTurned : (S : Scalars) → IsField S → ParityProblem → ℕ → Separators → Turned → Type 0
TellsTurned S F p k t (Ended classes) = TellsClasses S p k classes
TellsTurned S F p k t (Grown M) = IsGrowth S F p k t M

-- the exposed line e has the line g in its support, which isn't akin to it
pub record IsSplit (S : Scalars) (p : ParityProblem) (t : Separators) (M : List ℕ) (e g : ℕ) : Type 0 where
  pub within : e < length p.lines
  pub exposed : IsExposed S p M e
  pub in_support : InSupport S p M e g
  pub not_akin : akin_at t e g ≡ false

-- both vectors are in the span of the lines of one class
pub record AreOfClass (S : Scalars) (F : IsField S) (p : ParityProblem) (labels o v : List ℕ) : Type 0 where
  pub label : ℕ
  pub first_in : IsIn S F p (class_list labels label) o
  pub second_in : IsIn S F p (class_list labels label) v

-- what a vector of each of two lines gives
pub record IsCrossing (S : Scalars) (p : ParityProblem) (k i j : ℕ) (o u : List ℕ) (crossing : Crossing) : Type 0 where
  pub first : List ℕ
  pub second : List ℕ
  pub of_first : IsOfLine p i first
  pub of_second : IsOfLine p j second
  pub tells : TellsCrossing S p k o first u second crossing

-- Circuits: an exposed line and a line of its support, while the set moves toward one that is wide on both.
use Rattle.std.specs.Prelude.{◌≡◌, ℕ, suc, List, [], ◌∷◌, length}
use Rattle.vector_spaces.proofs.Tuples.{Tuple}
use Rattle.linear_algebra.specs.Scalars.{Scalars, IsField}
use Rattle.linear_algebra.proofs.Coordinates.{tuple, space}
use Rattle.linear_algebra.proofs.Elements.{Element}
use Rattle.matching_state.specs.Overlaps.{InSupport}
use Rattle.matching_state.specs.LinePlaces.{IsExposed}
use Rattle.parity_lines.proofs.Border.{tuples_at}
use Rattle.parity_lines.specs.Problems.{ParityProblem}
use Rattle.parity_theory.proofs.Circuits.{HasInCircuit}
use Rattle.parity_theory.proofs.Lines.{vectors}
use Rattle.parity_theory.proofs.Nearness.{left_over}
use Rattle.parity_theory.proofs.Widths.{IsWide}

-- the set N is wide on the vectors of the two lines
abbrev pub IsWideOnPair : (S : Scalars) (F : IsField S) (p : ParityProblem) → List ℕ → ℕ → ℕ → Type 0
IsWideOnPair S F p N e g = IsWide (space S F p.dimension) (tuples_at S F p) N (vectors (tuples_at S F p) (e ∷ g ∷ []))

-- the line e is exposed over M, and N is wide on e and a line of its support
pub record IsPulledApart (S : Scalars) (F : IsField S) (p : ParityProblem) (N M : List ℕ) (e : ℕ) : Type 0 where
  pub exposed : IsExposed S p M e
  pub other : ℕ
  pub in_support : InSupport S p M e other
  pub wide : IsWideOnPair S F p N e other

-- so it is, with the one vector to keep as an outer of e
pub record IsInCircuit (S : Scalars) (F : IsField S) (p : ParityProblem) (N : List ℕ) (keep : List (List ℕ)) (e : ℕ) (M : List ℕ) : Type 0 where
  pub outer : List ℕ
  pub keeps : keep ≡ outer ∷ []
  pub tip : Tuple (Element S) p.dimension
  pub other : ℕ
  pub circuit : HasInCircuit (space S F p.dimension) (tuples_at S F p) M e other tip (tuple S F p.dimension outer)
  pub wide : IsWideOnPair S F p N e other

-- L is in the circuit too, as long as M, and nearer to N
pub record GoesOnInCircuit (S : Scalars) (F : IsField S) (p : ParityProblem) (N : List ℕ) (keep : List (List ℕ)) (e : ℕ) (M L : List ℕ) : Type 0 where
  pub circuit : IsInCircuit S F p N keep e L
  pub as_long : length L ≡ length M
  pub nearer : suc (left_over L N) ≡ left_over M N

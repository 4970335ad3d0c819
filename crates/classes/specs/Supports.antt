-- Supports that leave their class, by labels of the lines.
use Rattle.std.specs.Prelude.{◌≡◌, ◌≢◌, ℕ, ◌<◌, ◌↔◌, List, length, slice_index}
use Rattle.std.specs.List.{Contains}
use Rattle.linear_algebra.specs.Scalars.{Scalars}
use Rattle.matching_state.specs.Overlaps.{InSupport}
use Rattle.matching_state.specs.LinePlaces.{IsExposed}
use Rattle.parity_lines.specs.Problems.{ParityProblem}

-- e is exposed over M, and L are the lines of its support
pub record HasSupport (S : Scalars) (p : ParityProblem) (M : List ℕ) (e : ℕ) (L : List ℕ) : Type 0 where
  pub exposed : IsExposed S p M e
  pub lines : (m : ℕ) → Contains L m ↔ InSupport S p M e m

-- the exposed line e has the line g of another label in its support
pub record IsStray (S : Scalars) (p : ParityProblem) (labels M : List ℕ) (e g : ℕ) : Type 0 where
  pub within : e < length p.lines
  pub exposed : IsExposed S p M e
  pub in_support : InSupport S p M e g
  pub apart : slice_index labels g ≢ slice_index labels e

-- the exposed line e has no such line
abbrev pub StaysInClass : Scalars → ParityProblem → List ℕ → List ℕ → ℕ → Type 0
StaysInClass S p labels M e = IsExposed S p M e → (g : ℕ) → InSupport S p M e g → slice_index labels g ≡ slice_index labels e

-- no exposed line has
abbrev pub IsClosed : Scalars → ParityProblem → List ℕ → List ℕ → Type 0
IsClosed S p labels M = (e : ℕ) → e < length p.lines → StaysInClass S p labels M e

-- both lines have a line of M in their supports
abbrev pub HaveCommonSupport : Scalars → ParityProblem → List ℕ → ℕ → ℕ → Type 0
HaveCommonSupport S p M e h = (m : ℕ) × InSupport S p M e m × InSupport S p M h m

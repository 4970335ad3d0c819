-- Subspaces, by what is in them.
use Rattle.std.specs.Prelude.{◌↔◌, ℕ, List}
use Rattle.field_core.specs.Matrix.{Matrix}
use Rattle.linear_algebra.specs.Scalars.{Scalars}
use Rattle.linear_algebra.specs.Spans.{InSpan}
use Rattle.echelon.specs.Grown.{IsBasisOf}
use Rattle.quotients.specs.ReducedBases.{IsReducedBasis}

-- the span of the rows of W is the set of all x with P x
abbrev pub HasElements : Scalars → Matrix → (List ℕ → Type 0) → Type 0
HasElements S W P = (x : List ℕ) → InSpan S W.width W.rows x ↔ P x

-- what a subspace keeps: a reduced basis, and an elimination of its span
pub record IsKept (S : Scalars) (basis eliminated : Matrix) : Type 0 where
  pub reduced : IsReducedBasis S basis.width basis.rows
  pub same : IsBasisOf S basis eliminated

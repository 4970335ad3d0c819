-- Bases that grow by vectors of a list until they span it.
use Rattle.std.specs.Prelude.{◌≡◌, ℕ, List, ◌++◌, All, Result, Ok, Err}
use Rattle.field_core.specs.Matrix.{Matrix}
use Rattle.linear_algebra.specs.Scalars.{Scalars}
use Rattle.linear_algebra.specs.Vectors.{AreVectors}
use Rattle.linear_algebra.specs.Spans.{InSpan, IsIndependent}

-- an independent list with the span of the vectors
pub record IsBasisOf (S : Scalars) (vectors basis : Matrix) : Type 0 where
  pub width : basis.width ≡ vectors.width
  pub independent : IsIndependent S vectors.width basis.rows
  pub vectors_in : AreVectors S vectors.width basis.rows
  pub spans : All (InSpan S vectors.width basis.rows) vectors.rows
  pub within : All (InSpan S vectors.width vectors.rows) basis.rows

-- some vectors were put behind
pub record Grows (before after : Matrix) : Type 0 where
  pub width : after.width ≡ before.width
  pub added : List (List ℕ)
  pub rows : after.rows ≡ before.rows ++ added

-- the list spans the vectors, and nothing beside them and what it spanned before
pub record SpansMore (S : Scalars) (vectors : List (List ℕ)) (before after : Matrix) : Type 0 where
  pub spans : All (InSpan S after.width after.rows) vectors
  pub within : All (InSpan S after.width (before.rows ++ vectors)) after.rows

abbrev pub GrowsToSpan : {T E : Type 0} → Scalars → List (List ℕ) → Matrix → Matrix → Result T E → Type 0
GrowsToSpan S vectors before after (Ok _) = SpansMore S vectors before after
GrowsToSpan S vectors before after (Err _) = Unit {0}

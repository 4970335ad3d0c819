-- A walk over the vectors of a second span, for the meeting of two spans.
use Rattle.std.specs.Prelude.{◌≡◌, ℕ, ◌-◌, List, [], ◌∷◌, ◌++◌, ◌⊎◌, length, drop}
use Rattle.field_core.specs.Matrix.{Matrix}
use Rattle.linear_algebra.specs.Scalars.{Scalars}
use Rattle.linear_algebra.specs.Vectors.{IsVector, AreVectors, vector_sum}
use Rattle.linear_algebra.specs.Spans.{combination, InSpan, Combines}
use Rattle.quotients.specs.Subspaces.{HasElements}
use Rattle.quotients.specs.declared.meeting.Walk.{Walk}

abbrev pub with_row : Matrix → List ℕ → Matrix
with_row m v = record m { rows = m.rows ++ v ∷ [] }

-- w is outside the span of the basis, and stands behind the basis and the added vectors
pub record TakesNew {X : Type 0} (S : Scalars) (before : Walk X) (w : List ℕ) (after : Walk X) : Type 0 where
  pub outside : ¬ (InSpan S before.basis.width before.basis.rows w)
  pub basis : after.basis ≡ with_row before.basis w
  pub added : after.added ≡ with_row before.added w
  pub common : after.common ≡ before.common

-- coefficients combine the basis to w; without its part in the added vectors, w stands behind the common ones
pub record TakesOld {X : Type 0} (S : Scalars) (before : Walk X) (w : List ℕ) (after : Walk X) : Type 0 where
  pub basis : after.basis ≡ before.basis
  pub added : after.added ≡ before.added
  pub coefficients : List ℕ
  pub combine : Combines S before.basis.width before.basis.rows coefficients w
  pub part : List ℕ
  pub vector : IsVector S before.basis.width part
  pub sum : w ≡ vector_sum S part (combination S before.basis.width (drop (length before.basis.rows - length before.added.rows) coefficients) before.added.rows)
  pub common : after.common ≡ with_row before.common part

abbrev pub Takes : {X : Type 0} → Scalars → Walk X → List ℕ → Walk X → Type 0
Takes S before w after = TakesNew S before w after ⊎ TakesOld S before w after

-- the rows span the vectors that are in both spans
pub record SpansMeeting (S : Scalars) (us ws meeting : Matrix) : Type 0 where
  pub width : meeting.width ≡ us.width
  pub vectors : AreVectors S us.width meeting.rows
  pub elements : HasElements S meeting (λ x. InSpan S us.width us.rows x × InSpan S us.width ws.rows x)

-- Bases of the span of some vectors.
use Rattle.std.specs.Prelude.{◌≡◌, ◌↔◌, ℕ, List}
use Rattle.field_core.specs.Matrix.{Matrix}
use Rattle.linear_algebra.specs.Scalars.{Scalars}
use Rattle.linear_algebra.specs.Spans.{InSpan}

-- what the vectors vs of length d span, the basis spans
pub record HasSpan (S : Scalars) (d : ℕ) (vs : List (List ℕ)) (basis : Matrix) : Type 0 where
  pub width : basis.width ≡ d
  pub span : (x : List ℕ) → InSpan S d basis.rows x ↔ InSpan S d vs x

-- What the reduction of an echelon basis makes.
use Rattle.std.specs.Prelude.{◌≡◌, ◌≢◌, ℕ, List, All, slice_index}
use Rattle.field_core.specs.Matrix.{Matrix}
use Rattle.linear_algebra.specs.Scalars.{Scalars}
use Rattle.linear_algebra.specs.Vectors.{IsVector}
use Rattle.linear_algebra.specs.Spans.{InSpan}
use Rattle.echelon.specs.Residues.{IsLeading}
use Rattle.quotients.specs.ReducedBases.{IsReducedBasis}

-- u is in the span, and at the positions where vectors of the span lead it is one at p and zero at the others
pub record IsRowAt (S : Scalars) (d : ℕ) (vs : List (List ℕ)) (p : ℕ) (u : List ℕ) : Type 0 where
  pub vector : IsVector S d u
  pub in_span : InSpan S d vs u
  pub one : IsLeading S d vs p → slice_index u p ≡ S.one
  pub zero : (q : ℕ) → IsLeading S d vs q → q ≢ p → slice_index u q ≡ S.zero

-- a reduced basis with the span of vs
pub record IsReductionOf (S : Scalars) (d : ℕ) (vs : List (List ℕ)) (basis : Matrix) : Type 0 where
  pub width : basis.width ≡ d
  pub reduced : IsReducedBasis S d basis.rows
  pub within : All (InSpan S d vs) basis.rows
  pub spans : (x : List ℕ) → InSpan S d vs x → InSpan S d basis.rows x

-- A basis that took the vectors of the first lines of a set.
use Rattle.std.specs.Prelude.{◌≡◌, ℕ, List, take}
use Rattle.field_core.specs.Matrix.{Matrix}
use Rattle.linear_algebra.specs.Scalars.{Scalars}
use Rattle.linear_algebra.specs.Spans.{IsIndependent}
use Rattle.parity_lines.specs.Problems.{ParityProblem, vectors_at}

-- the basis has the vectors of the first i lines of M, two a line in order, and they are independent
pub record HasFirstLines (S : Scalars) (p : ParityProblem) (M : List ℕ) (i : ℕ) (basis : Matrix) : Type 0 where
  pub width : basis.width ≡ p.dimension
  pub rows : basis.rows ≡ vectors_at p (take i M)
  pub independent : IsIndependent S basis.width basis.rows

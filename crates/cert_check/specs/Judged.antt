-- What is known of an answer while its verdict is looked for.
use Rattle.std.specs.Prelude.{◌≡◌, ℕ, ◌<◌, List, length, All}
use Rattle.field_core.specs.Matrix.{Matrix}
use Rattle.linear_algebra.specs.Scalars.{Scalars}
use Rattle.echelon.specs.Grown.{IsBasisOf}
use Rattle.parity_lines.specs.Problems.{ParityProblem}
use Rattle.cert_check.specs.Verdicts.{AreIndependent}

-- all positions are within the problem, set and kernel are independent, and the basis has the kernel's span
pub record IsJudged (S : Scalars) (p : ParityProblem) (set : List ℕ) (kernel : Matrix) (parts : List (List ℕ))
    (basis : Matrix) : Type 0 where
  pub set_within : All (λ m. m < length p.lines) set
  pub parts_within : All (λ part. All (λ m. m < length p.lines) part) parts
  pub width : kernel.width ≡ p.dimension
  pub independent : AreIndependent S p set kernel
  pub basis_is : IsBasisOf S kernel basis

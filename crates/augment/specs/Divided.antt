-- Problems, sets and certificates modulo a point.
use Rattle.std.specs.Prelude.{◌≡◌, ◌≢◌, ℕ, suc, List, ◌∷◌, length, map, take}
use Rattle.field_core.specs.Matrix.{Matrix}
use Rattle.families.specs.Families.{IsCommon, SetFamily}
use Rattle.linear_algebra.specs.Scalars.{Scalars}
use Rattle.linear_algebra.specs.Vectors.{IsVector, zero_vector}
use Rattle.parity_lines.specs.LineSets.{IsIndependentSet}
use Rattle.parity_lines.specs.Problems.{ParityProblem}
use Rattle.problem_quotients.specs.ProblemsModulo.{IsProblemModulo, lifted_kernel}
use Rattle.quotient_spaces.specs.Projections.{IsFirstPivot, lifted}
use Rattle.parity_lines.specs.declared.answer.Certificate.{Certificate}
use Rattle.augment.specs.FirstSets.{first_of}

-- q is p modulo the point
pub record IsModulo (S : Scalars) (point : List ℕ) (p q : ParityProblem) : Type 0 where
  pub pivot : ℕ
  pub first : IsFirstPivot S point pivot
  pub modulo : IsProblemModulo S point pivot p q

-- a vector, but zero, that every set of the family spans
pub record IsCommonPoint (S : Scalars) (f : SetFamily) (point : List ℕ) : Type 0 where
  pub vector : IsVector S f.problem.dimension point
  pub not_zero : point ≢ zero_vector S f.problem.dimension
  pub common : IsCommon S f point

-- N is independent in q, and one line shorter than M
pub record IsShortened (S : Scalars) (q : ParityProblem) (M N : List ℕ) : Type 0 where
  pub independent : IsIndependentSet S q N
  pub shorter : suc (length N) ≡ length M

-- f is a family of the problem q, whose first set is one line shorter than that of the other
pub record IsFamilyBelow (S : Scalars) (q : ParityProblem) (M : List ℕ) (f : SetFamily) : Type 0 where
  pub problem : f.problem ≡ q
  pub first : IsShortened S q M (first_of f)

-- the point, and the first n rows lifted
pub record IsLiftedUpTo (S : Scalars) (point : List ℕ) (kernel : Matrix) (n : ℕ) (above : Matrix) : Type 0 where
  pub width : above.width ≡ length point
  pub rows : (i : ℕ) → IsFirstPivot S point i → above.rows ≡ point ∷ map (lifted S i) (take n kernel.rows)

-- c has the kernel of b lifted, with the point in front, and the same parts
pub record IsLiftedFrom {X : Type 0} (S : Scalars) (point : List ℕ) (b c : Certificate X) : Type 0 where
  pub pivot : ℕ
  pub first : IsFirstPivot S point pivot
  pub kernel : c.kernel ≡ lifted_kernel S point pivot b.kernel
  pub parts : c.parts ≡ b.parts

-- What the texts say.
use Rattle.std.specs.Prelude.{◌≡◌, ℕ, ◌≤◌, ◌<◌, List, length, All}
use Rattle.std.specs.List.{Contains}
use Rattle.field_core.specs.Matrix.{Matrix}
use Rattle.linear_algebra.specs.Scalars.{Scalars}
use Rattle.linear_algebra.specs.Vectors.{AreVectors}
use Rattle.parity_lines.specs.LineSets.{IsLineSet}
use Rattle.parity_lines.specs.PartLists.{ArePartLists}
use Rattle.parity_lines.specs.Problems.{ParityProblem, IsProblem}
use Rattle.small_fields.specs.FieldName.{field_orders}

-- the greatest dimension of a problem, and how many lines it has at most
abbrev pub most_dimension : ℕ
most_dimension = 128

abbrev pub most_lines : ℕ
most_lines = 2048

-- how many vectors a kernel has at most, and how many parts an answer
abbrev pub most_kernel : ℕ
most_kernel = 128

abbrev pub most_parts : ℕ
most_parts = 2048

-- a set of lines, a kernel and parts
pub record AnswerValue : Type 0 where
  pub set : List ℕ
  pub kernel : Matrix
  pub parts : List (List ℕ)

-- what a problem text can hold: one of the five orders, and a dimension and lines within the limits
pub record IsWithinLimits (S : Scalars) (p : ParityProblem) : Type 0 where
  pub order : Contains field_orders S.order
  pub dimension : p.dimension ≤ most_dimension
  pub lines : length p.lines ≤ most_lines
  pub vectors : IsProblem S p

-- what an answer text to the problem can hold: the kernel may be dependent, and a position may stand in no part or in two
pub record IsAnswerTo (S : Scalars) (p : ParityProblem) (a : AnswerValue) : Type 0 where
  pub set : IsLineSet p a.set
  pub width : a.kernel.width ≡ p.dimension
  pub kernel : AreVectors S p.dimension a.kernel.rows
  pub kernel_long : length a.kernel.rows ≤ most_kernel
  pub parts : ArePartLists a.parts
  pub within : All (All (λ m. m < length p.lines)) a.parts
  pub parts_long : length a.parts ≤ most_parts

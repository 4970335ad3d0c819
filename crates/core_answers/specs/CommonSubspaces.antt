-- What the spans of the largest sets of a problem have in common.
use Rattle.std.specs.Prelude.{◌≢◌, ◌↔◌, ℕ, List, [], All}
use Rattle.field_core.specs.Matrix.{Matrix}
use Rattle.linear_algebra.specs.Scalars.{Scalars}
use Rattle.linear_algebra.specs.Spans.{InSpan, IsIndependent}
use Rattle.linear_algebra.specs.Vectors.{AreVectors}
use Rattle.parity_lines.specs.Certificates.{IsGoodAnswer}
use Rattle.parity_lines.specs.LineSets.{IsLargest}
use Rattle.parity_lines.specs.Problems.{ParityProblem, vectors_at}

-- v lies in the span of every largest set
abbrev pub IsCommon : Scalars → ParityProblem → List ℕ → Type 0
IsCommon S p v = (set : List ℕ) → IsLargest S p set → InSpan S p.dimension (vectors_at p set) v

-- the rows are a basis of the common subspace, which has these vectors
pub record IsCommonBasis (S : Scalars) (p : ParityProblem) (rows : List (List ℕ)) : Type 0 where
  pub vectors : AreVectors S p.dimension rows
  pub independent : IsIndependent S p.dimension rows
  pub span : (v : List ℕ) → InSpan S p.dimension rows v ↔ IsCommon S p v

-- the kernel of some good answer spans v
pub record IsInKernel (S : Scalars) (p : ParityProblem) (v : List ℕ) : Type 0 where
  pub set : List ℕ
  pub kernel : Matrix
  pub parts : List (List ℕ)
  pub is_good : IsGoodAnswer S p set kernel parts
  pub spans : InSpan S p.dimension kernel.rows v

-- the sets are largest, there is at least one, and their spans meet in exactly the span of the rows
pub record MeetIn (S : Scalars) (p : ParityProblem) (sets rows : List (List ℕ)) : Type 0 where
  pub some : sets ≢ []
  pub largest : All (IsLargest S p) sets
  pub meet : (v : List ℕ) → InSpan S p.dimension rows v ↔ All (λ set. InSpan S p.dimension (vectors_at p set) v) sets

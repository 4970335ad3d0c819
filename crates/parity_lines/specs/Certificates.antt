-- Certificates, a kernel with parts, and the good answers of a problem.
use Rattle.std.specs.Prelude.{◌≡◌, ◌≢◌, ℕ, ◌+◌, ◌/◌, ◌<◌, ◌==◌, List, [], length, All, count_by, sum_by}
use Rattle.std.specs.List.{list_any}
use Rattle.field_core.specs.Matrix.{Matrix}
use Rattle.linear_algebra.specs.Scalars.{Scalars}
use Rattle.linear_algebra.specs.Vectors.{AreVectors}
use Rattle.linear_algebra.specs.Spans.{IsIndependent}
use Rattle.linear_algebra.specs.Ranks.{rank_over}
use Rattle.parity_lines.specs.Problems.{ParityProblem, vectors_at}
use Rattle.parity_lines.specs.LineSets.{IsLineSet, IsIndependentSet}

-- in how many of the parts the position m stands
abbrev pub parts_with : List (List ℕ) → ℕ → ℕ
parts_with parts m = count_by (λ part. list_any (λ l. l == m) part) parts

-- the kernel is an independent list of vectors of the space, and the parts, none of them empty, hold each position once
pub record IsCertificate (S : Scalars) (p : ParityProblem) (kernel : Matrix) (parts : List (List ℕ)) : Type 0 where
  pub width : kernel.width ≡ p.dimension
  pub vectors : AreVectors S p.dimension kernel.rows
  pub independent : IsIndependent S p.dimension kernel.rows
  pub line_sets : All (IsLineSet p) parts
  pub nonempty : All (λ part. part ≢ []) parts
  pub once : (m : ℕ) → m < length p.lines → parts_with parts m ≡ 1

-- half the rank that each part adds to a list of vectors, rounded down
abbrev pub halves_over : Scalars → ParityProblem → List (List ℕ) → List (List ℕ) → ℕ
halves_over S p rows parts = sum_by (λ part. rank_over S p.dimension rows (vectors_at p part) / 2) parts

-- the length of the kernel, and the halves of the parts over it
abbrev pub bound : Scalars → ParityProblem → Matrix → List (List ℕ) → ℕ
bound S p kernel parts = length kernel.rows + halves_over S p kernel.rows parts

-- an independent set, with a certificate whose bound is its length
pub record IsGoodAnswer (S : Scalars) (p : ParityProblem) (set : List ℕ) (kernel : Matrix) (parts : List (List ℕ)) : Type 0 where
  pub independent_set : IsIndependentSet S p set
  pub certificate : IsCertificate S p kernel parts
  pub tight : bound S p kernel parts ≡ length set

-- Sets of lines: independent ones, and the largest of them.
use Rattle.std.specs.Prelude.{ℕ, ◌<◌, ◌≤◌, List, length, All}
use Rattle.std.specs.List.{Contains}
use Rattle.std.specs.List.Sorted.{IsStrictlyIncreasing}
use Rattle.linear_algebra.specs.Scalars.{Scalars}
use Rattle.linear_algebra.specs.Spans.{IsIndependent}
use Rattle.parity_lines.specs.Problems.{ParityProblem, vectors_at}

-- L is a strictly increasing list of positions of the problem
pub record IsLineSet (p : ParityProblem) (L : List ℕ) : Type 0 where
  pub increasing : IsStrictlyIncreasing L
  pub within : All (λ m. m < length p.lines) L

-- the same line is in both
abbrev pub HaveCommonLine : List ℕ → List ℕ → Type 0
HaveCommonLine L K = (m : ℕ) × Contains L m × Contains K m

-- the vectors of the lines of L, two a line, are an independent list
pub record IsIndependentSet (S : Scalars) (p : ParityProblem) (L : List ℕ) : Type 0 where
  pub line_set : IsLineSet p L
  pub independent : IsIndependent S p.dimension (vectors_at p L)

-- L is independent, and no independent set is longer
pub record IsLargest (S : Scalars) (p : ParityProblem) (L : List ℕ) : Type 0 where
  pub independent_set : IsIndependentSet S p L
  pub most : (J : List ℕ) → IsIndependentSet S p J → length J ≤ length L

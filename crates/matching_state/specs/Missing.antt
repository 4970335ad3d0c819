-- What an independent set of lines misses.
use Rattle.std.specs.Prelude.{ℕ, List, ◌++◌}
use Rattle.linear_algebra.specs.Scalars.{Scalars}
use Rattle.linear_algebra.specs.Spans.{IsIndependent}
use Rattle.parity_lines.specs.Problems.{ParityProblem, vectors_at}

-- M misses the vectors vs: behind the vectors of M's lines they are independent
abbrev pub Misses : Scalars → ParityProblem → List ℕ → List (List ℕ) → Type 0
Misses S p M vs = IsIndependent S p.dimension (vectors_at p M ++ vs)

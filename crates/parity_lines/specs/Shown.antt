-- How the lines of a problem are seen.
use Rattle.std.specs.Prelude.{ℕ, List, map}
use Rattle.parity_lines.specs.declared.problem.Line.{Line}

-- the pairs of vectors
abbrev pub pairs_of : {X : Type 0} → List (Line X) → List (List ℕ × List ℕ)
pairs_of {X} lines = map (λ (line : Line X). (line.first, line.second)) lines

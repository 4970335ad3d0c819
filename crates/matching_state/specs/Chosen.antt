-- A problem with a set of its lines, a basis of the whole space, and lists of coordinates over it.
use Rattle.std.specs.Prelude.{ℕ, List}
use Rattle.parity_lines.specs.Problems.{ParityProblem}

pub record Chosen : Type 0 where
  pub problem : ParityProblem
  pub set : List ℕ
  pub basis : List (List ℕ)
  pub kept : List (List ℕ)

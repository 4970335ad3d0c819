-- What one line more makes of a problem and of a generator's state.
use Rattle.std.specs.Prelude.{◌≡◌, ℕ, ◌/◌, List, [], ◌∷◌, ◌++◌}
use Rattle.generator.specs.GeneratedProblems.{IsBlockVector}
use Rattle.generator.specs.Sequence.{following}
use Rattle.parity_lines.specs.Problems.{ParityProblem}

-- a line of the block stands behind the others, by the two states after x
pub record TakesLine (b x y : ℕ) (before after : ParityProblem) : Type 0 where
  pub state : y ≡ following (following x)
  pub first : List ℕ
  pub second : List ℕ
  pub is : after ≡ record before { lines = before.lines ++ (first, second) ∷ [] }
  pub first_is : IsBlockVector b (following x / 65536) first
  pub second_is : IsBlockVector b (following (following x) / 65536) second

-- What each step of a turn knows of its family and its table.
use Rattle.families.specs.Families.{IsFamily, SetFamily}
use Rattle.linear_algebra.specs.Scalars.{Scalars, IsField}
use Rattle.parity_lines.specs.Problems.{IsProblem}
use Rattle.classes.specs.Tables.{Separators}
use Rattle.classes.specs.Turns.{IsTurn}

-- f is a family of a problem, and t is the table of the turn
pub record TurnFacts (S : Scalars) (F : IsField S) (f : SetFamily) (t : Separators) : Type 0 where
  pub problem : IsProblem S f.problem
  pub family : IsFamily S f
  pub turn : IsTurn S F f t

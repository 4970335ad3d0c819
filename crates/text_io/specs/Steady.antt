-- What contracts see of a steady source.
use Rattle.std.specs.Prelude.{ℕ, List}

-- the bytes still to come, and how many were given
pub record SteadySourceState : Type 0 where
  pub left : List ℕ
  pub given : ℕ

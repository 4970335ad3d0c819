-- A list of vectors of one width.
use Rattle.std.specs.Prelude.{ℕ, List}

-- a width, and the rows
pub record Matrix : Type 0 where
  pub width : ℕ
  pub rows : List (List ℕ)

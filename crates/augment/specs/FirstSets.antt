-- The first set of a family, from which a step is looked for.
use Rattle.std.specs.Prelude.{◌≡◌, ℕ, List, [], slice_index_or}
use Rattle.families.specs.Families.{SetFamily}

abbrev pub first_of : SetFamily → List ℕ
first_of f = slice_index_or f.sets 0 []

-- the problem and the first set stay
pub record KeepsFirst (before after : SetFamily) : Type 0 where
  pub problem : after.problem ≡ before.problem
  pub first : first_of after ≡ first_of before

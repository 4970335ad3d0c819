-- The first vertex that isn't connected with the first of all, if there is one.
use Rattle.std.specs.Prelude.{ℕ, List, Bool, not, nat_eq, Option}
use Rattle.std.specs.List.{position}
use Rattle.graph_theory.specs.Labels.{label}
use Rattle.graph_theory.specs.Numbers.{numbers_from}

-- whether vertex 0 and v have different labels: the least vertices that are connected with them
abbrev pub is_apart : List (ℕ × ℕ) → ℕ → Bool
is_apart E v = not (nat_eq (label E v) (label E 0))

-- of the n vertices the first that isn't connected with vertex 0
unfoldable pub first_apart : ℕ → List (ℕ × ℕ) → Option ℕ
first_apart n E = position (is_apart E) (numbers_from 0 n)

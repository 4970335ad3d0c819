-- The first vertex at which a graph isn't cubic and simple, if there is one.
use Rattle.std.specs.Prelude.{ℕ, List, [], ◌∷◌, length, Bool, true, ◌&&◌, not, nat_eq, Option}
use Rattle.std.specs.List.{position}
use Rattle.cubic_front.specs.CubicGraphs.{ways_from}
use Rattle.edge_lists.specs.Occurrences.{count}
use Rattle.graph_theory.specs.Numbers.{numbers_from}

-- whether no number stands in the list twice
abbrev pub are_different : List ℕ → Bool
are_different [] = true
are_different (x ∷ xs) = nat_eq (count x xs) 0 && are_different xs

-- whether v is the end of exactly three edges, and these lead to three different other vertices
abbrev pub is_cubic_at : List (ℕ × ℕ) → ℕ → Bool
is_cubic_at E v = nat_eq (length (ways_from v E)) 3 && are_different (v ∷ ways_from v E)

-- of the n vertices the first that isn't so
unfoldable pub first_not_cubic : ℕ → List (ℕ × ℕ) → Option ℕ
first_not_cubic n E = position (λ v. not (is_cubic_at E v)) (numbers_from 0 n)

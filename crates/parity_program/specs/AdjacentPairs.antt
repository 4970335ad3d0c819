-- How many pairs of edges of a graph have a common end, and its cycle rank.
use Rattle.std.specs.Prelude.{ℕ, ◌+◌, ◌-◌, List, length, Bool, map, ◌&&◌, ◌||◌, nat_eq, nat_lt, count_by}
use Rattle.std.specs.List.{flat_map}
use Rattle.graph_theory.specs.Counts.{component_count}
use Rattle.graph_theory.specs.Numbers.{numbers_from}
use Rattle.graph_theory.specs.Walks.{edge_at}

-- whether some vertex is an end of both
abbrev pub have_common_end : ℕ × ℕ → ℕ × ℕ → Bool
have_common_end d e = (nat_eq d.0 e.0 || nat_eq d.0 e.1) || (nat_eq d.1 e.0 || nat_eq d.1 e.1)

-- whether the numbers increase, and their edges have a common end
abbrev pub is_adjacent_pair : List (ℕ × ℕ) → ℕ × ℕ → Bool
is_adjacent_pair E p = nat_lt p.0 p.1 && have_common_end (edge_at E p.0) (edge_at E p.1)

-- all pairs of numbers below n
abbrev pub pairs_below : ℕ → List (ℕ × ℕ)
pairs_below n = flat_map (λ a. map (λ b. (a, b)) (numbers_from 0 n)) (numbers_from 0 n)

-- how many of the pairs of edges have a common end
unfoldable pub pair_count : List (ℕ × ℕ) → ℕ
pair_count E = count_by (is_adjacent_pair E) (pairs_below (length E))

-- the edges and the components less the n vertices
abbrev pub cycle_rank : ℕ → List (ℕ × ℕ) → ℕ
cycle_rank n E = length E + component_count n E - n

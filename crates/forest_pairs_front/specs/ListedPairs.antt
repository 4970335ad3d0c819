-- Lists of pairs of edges of a graph: the forests of pairs, the spare pairs, and the longest of each.
use Rattle.std.specs.Prelude.{ℕ, ◌/◌, ◌<◌, ◌≤◌, All, List, length}
use Rattle.std.specs.List.Sorted.{IsStrictlyIncreasing}
use Rattle.edge_lists.specs.EdgeNumbers.{edge_numbers}
use Rattle.graph_theory.specs.Walks.{edge_at}
use Rattle.pairs_theory.specs.PairsOfEdges.{IsForestOfPairs, IsSpare}

-- pair i has the edges 2i and 2i + 1; a last edge without a partner stands in no pair
abbrev pub pair_count : List (ℕ × ℕ) → ℕ
pair_count E = length E / 2

-- a strictly increasing list of pairs of the edges E
pub record ArePairs (E : List (ℕ × ℕ)) (M : List ℕ) : Type 0 where
  pub increasing : IsStrictlyIncreasing M
  pub within : All (λ i. i < pair_count E) M

-- pairs whose edges have no cycle
pub record ArePairForest (E : List (ℕ × ℕ)) (M : List ℕ) : Type 0 where
  pub pairs : ArePairs E M
  pub forest : IsForestOfPairs (edge_at E) M

-- pairs without whose edges the graph with n vertices is connected
pub record AreSparePairs (n : ℕ) (E : List (ℕ × ℕ)) (M : List ℕ) : Type 0 where
  pub pairs : ArePairs E M
  pub spare : IsSpare (edge_at E) n (edge_numbers E) M

-- of the lists with P, none is longer
pub record IsLongest (P : List ℕ → Type 0) (M : List ℕ) : Type 0 where
  pub is : P M
  pub most : (L : List ℕ) → P L → length L ≤ length M

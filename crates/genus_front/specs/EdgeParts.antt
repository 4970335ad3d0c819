-- The edges of a graph in three parts: those that are taken, a spanning tree of the others, and the rest.
use Rattle.std.specs.Prelude.{◌≡◌, ◌≤◌, ℕ, List}
use Rattle.vector_spaces.proofs.Distinct.{IsDistinct}
use Rattle.graph_theory.specs.Walks.{edge_at}
use Rattle.edge_lists.specs.Connections.{IsConnected, IsGraph}
use Rattle.edge_lists.specs.EdgeNumbers.{edge_numbers}
use Rattle.edge_lists.specs.Occurrences.{count, without}
use Rattle.genus_front.specs.SpanningForests.{IsSpanningForest}

-- different edges are taken, T is a spanning forest of the others, which connect all vertices, and the rest are outside both
pub record AreParts (E : List (ℕ × ℕ)) (n : ℕ) (taken T rest : List ℕ) : Type 0 where
  pub graph : IsGraph (edge_at E) n (edge_numbers E)
  pub different : IsDistinct taken
  pub among : (e : ℕ) → 1 ≤ count e taken → 1 ≤ count e (edge_numbers E)
  pub others : List ℕ
  pub outside : others ≡ without taken (edge_numbers E)
  pub connected : IsConnected (edge_at E) n others
  pub forest : IsSpanningForest (edge_at E) others T
  pub left : rest ≡ without T others

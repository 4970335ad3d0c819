-- Forests that join what a list of edges joins.
use Rattle.std.specs.Prelude.{◌≤◌, ℕ, List}
use Rattle.edge_lists.specs.Connections.{AreForest, Joined}
use Rattle.edge_lists.specs.Occurrences.{count}

-- T is a forest of edges of K, and joins what they join
pub record IsSpanningForest (ends : ℕ → ℕ × ℕ) (K T : List ℕ) : Type 0 where
  pub forest : AreForest ends T
  pub inside : (e : ℕ) → 1 ≤ count e T → 1 ≤ count e K
  pub joins : (u v : ℕ) → Joined ends K u v → Joined ends T u v

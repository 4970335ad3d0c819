-- Feedback sets of a graph as strictly increasing lists of its vertices.
use Rattle.std.specs.Prelude.{◌≤◌, ◌<◌, ℕ, List, All, length}
use Rattle.std.specs.List.Sorted.{IsStrictlyIncreasing}
use Rattle.graph_theory.specs.Walks.{edge_at}
use Rattle.edge_lists.specs.EdgeNumbers.{edge_numbers}
use Rattle.feedback_theory.specs.FeedbackSets.{IsFeedbackSet}

-- vertices below n in order, and every cycle of the graph has one of them
pub record IsFeedbackVertexSet (n : ℕ) (E : List (ℕ × ℕ)) (X : List ℕ) : Type 0 where
  pub increasing : IsStrictlyIncreasing X
  pub within : All (λ v. v < n) X
  pub meets : IsFeedbackSet (edge_at E) (edge_numbers E) X

-- and none is shorter
pub record IsLeastFeedbackVertexSet (n : ℕ) (E : List (ℕ × ℕ)) (X : List ℕ) : Type 0 where
  pub feedback : IsFeedbackVertexSet n E X
  pub least : (Y : List ℕ) → IsFeedbackVertexSet n E Y → length X ≤ length Y

use Rattle.std.proofs.Common.{◌≡◌, ◌<◌, ℕ, IsTrue, length, All}
use Rattle.std.specs.Prelude.{◌↔◌}
use Rattle.graph_theory.specs.Walks.{AreAdjacent}
use Rattle.graph_core.specs.Gathered.{is_marked}
use Rattle.graph_core.proofs.neighbours.Neighbours.of.Given as goal

abbrev pub invariant-loop-vertex : goal.invariant-loop-vertex
invariant-loop-vertex l = record {
  long : length l.rows.items ≡ l.vertex;
  wide : All (λ row. length row ≡ length l.graph.names) l.rows.items;
  marked : (a b : ℕ) → a < l.vertex → b < length l.graph.names → IsTrue (is_marked l.rows.items a b) ↔ AreAdjacent l.graph.ends a b;
}

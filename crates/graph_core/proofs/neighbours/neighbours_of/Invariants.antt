use Rattle.std.proofs.Common.{◌≡◌, ◌<◌, ℕ, IsTrue, length, take, false}
use Rattle.std.specs.Prelude.{slice_index_or, ◌↔◌}
use Rattle.graph_theory.specs.Walks.{AreAdjacent}
use Rattle.graph_core.proofs.neighbours.neighbours_of.Given as goal

abbrev pub invariant-loop-edge : goal.invariant-loop-edge
invariant-loop-edge l = record {
  long : length l.marks.items ≡ length l.graph.names;
  marked : (b : ℕ) → b < length l.graph.names → IsTrue (slice_index_or l.marks.items b false) ↔ AreAdjacent
      (take l.edge l.graph.ends) l.vertex b;
}

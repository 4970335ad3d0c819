use Rattle.std.proofs.Common.{◌≡◌, length}
use Rattle.graph_theory.specs.Walks.{edge_at}
use Rattle.graph_core.specs.Ways.{AreWays}
use Rattle.graph_core.proofs.Searches.{IsSpread}
use Rattle.graph_core.proofs.ways.Ways.spread.Given as goal

abbrev pub invariant-loop-i : goal.invariant-loop-i
invariant-loop-i l = record {
  vertex : l.self.to ≡ l.initial.self.to;
  count : length l.self.table.items ≡ length l.initial.self.table.items;
  ways : AreWays (edge_at l.graph.ends) l.forest l.self.to l.self.table.items;
  spread : IsSpread (edge_at l.graph.ends) l.forest l.initial.self.table.items l.self.table.items l.changed l.i;
}

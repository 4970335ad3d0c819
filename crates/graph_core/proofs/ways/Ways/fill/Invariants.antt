use Rattle.std.proofs.Common.{◌≡◌, length}
use Rattle.graph_theory.specs.Walks.{edge_at}
use Rattle.graph_core.specs.Ways.{AreWays, unreached}
use Rattle.graph_core.proofs.ways.Ways.fill.Given as goal

abbrev pub invariant-loop : goal.invariant-loop
invariant-loop l = record {
  vertex : l.self.to ≡ l.initial.self.to;
  count : length l.self.table.items ≡ length l.initial.self.table.items;
  ways : AreWays (edge_at l.graph.ends) l.forest l.self.to l.self.table.items;
}

abbrev pub decreases-loop : goal.decreases-loop
decreases-loop l = unreached l.self.table.items

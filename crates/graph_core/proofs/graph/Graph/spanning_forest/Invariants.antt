use Rattle.std.proofs.Common.{◌≡◌, take, length}
use Rattle.graph_theory.specs.Greedy.{greedy_edges}
use Rattle.graph_theory.specs.Walks.{edge_at}
use Rattle.graph_core.specs.LabelLists.{labels}
use Rattle.graph_core.proofs.graph.Graph.spanning_forest.Given as goal

abbrev pub invariant-loop-edge : goal.invariant-loop-edge
invariant-loop-edge l = record {
  labelled : l.labels.items ≡ labels (take l.edge l.self.ends) (length l.self.names);
  greedy : l.kept ≡ greedy_edges (edge_at l.self.ends) l.edge;
}

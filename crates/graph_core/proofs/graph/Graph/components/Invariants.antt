use Rattle.std.proofs.Common.{◌≡◌, take, length}
use Rattle.graph_core.specs.LabelLists.{labels}
use Rattle.graph_core.proofs.graph.Graph.components.Given as goal

abbrev pub invariant-loop-edge : goal.invariant-loop-edge
invariant-loop-edge l = l.labels.items ≡ labels (take l.edge l.self.ends) (length l.self.names)

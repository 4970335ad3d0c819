use Rattle.std.proofs.Common.{◌≡◌, []}
use Rattle.graph_core.specs.LabelLists.{labels}
use Rattle.graph_core.proofs.components.own_labels.Given as goal

abbrev pub invariant-loop-vertex : goal.invariant-loop-vertex
invariant-loop-vertex l = l.own.items ≡ labels [] l.vertex

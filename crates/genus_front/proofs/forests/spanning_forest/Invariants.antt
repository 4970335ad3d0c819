use Rattle.std.proofs.Common.{take}
use Rattle.graph_theory.specs.Walks.{edge_at}
use Rattle.genus_front.specs.SpanningForests.{IsSpanningForest}
use Rattle.genus_front.proofs.forests.spanning_forest.Given as goal

abbrev pub invariant-loop-i : goal.invariant-loop-i
invariant-loop-i l = IsSpanningForest (edge_at l.graph.ends) (take l.i l.edges) l.forest

use Rattle.std.proofs.Common.{take, length}
use Rattle.graph_theory.specs.Walks.{edge_at}
use Rattle.cographic.specs.Cycles.{AreCycles}
use Rattle.cographic.proofs.cycles.cycles_of.Given as goal

abbrev pub invariant-loop-i : goal.invariant-loop-i
invariant-loop-i l = AreCycles (edge_at l.graph.ends) (length l.graph.ends) l.tree (take l.i l.others) l.cycles.items

use Rattle.std.proofs.Common.{◌≡◌, take}
use Rattle.edge_lists.specs.Occurrences.{count}
use Rattle.cubic_front.specs.CubicGraphs.{ways_from}
use Rattle.cubic_front.proofs.cubic.leads.Given as goal

abbrev pub invariant-loop-edge : goal.invariant-loop-edge
invariant-loop-edge l = count l.other (ways_from l.vertex (take l.edge l.graph.ends)) ≡ 0

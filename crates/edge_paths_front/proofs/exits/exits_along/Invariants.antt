use Rattle.std.proofs.Common.{◌<◌, ◌-◌, get_or}
use Rattle.graph_theory.specs.Walks.{edge_at}
use Rattle.edge_paths_front.proofs.ExitSteps.{IsWay}
use Rattle.edge_paths_front.proofs.exits.exits_along.Given as goal

abbrev pub invariant-loop-i : goal.invariant-loop-i
invariant-loop-i l = (0 < l.i) × IsWay (edge_at l.graph.ends) l.path l.darts.items l.vertex (get_or l.path (l.i - 1) 0) l.i

use Rattle.std.proofs.Common.{◌≡◌, map, take}
use Rattle.graph_theory.specs.Walks.{edge_at}
use Rattle.edge_paths_front.specs.Replies.{darts_along}
use Rattle.edge_paths_front.proofs.reply.all_along.Given as goal

abbrev pub invariant-loop-i : goal.invariant-loop-i
invariant-loop-i l = l.found ≡ map (darts_along (edge_at l.graph.ends)) (take l.i l.paths)

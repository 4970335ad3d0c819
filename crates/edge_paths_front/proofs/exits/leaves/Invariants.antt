use Rattle.std.proofs.Common.{◌≡◌, drop}
use Rattle.graph_theory.specs.Walks.{edge_at}
use Rattle.edge_path_theory.specs.Exits.{leaves}
use Rattle.edge_paths_front.proofs.exits.leaves.Given as goal

abbrev pub invariant-loop-i : goal.invariant-loop-i
invariant-loop-i l = leaves (edge_at l.graph.ends) l.vertex (drop l.from l.path) ≡ leaves (edge_at l.graph.ends) l.vertex (drop l.i l.path)

use Rattle.std.proofs.Common.{length, map}
use Rattle.graph_theory.specs.Walks.{edge_at}
use Rattle.path_theory.specs.Classes.{class_of, is_terminal}
use Rattle.s_paths_front.proofs.FoundPaths.{ArePathsFrom}
use Rattle.s_paths_front.proofs.paths.paths_in.Given as goal

abbrev pub invariant-loop-from : goal.invariant-loop-from
invariant-loop-from l = ArePathsFrom (length l.graph.names) (is_terminal l.graph.classes) (class_of l.graph.classes)
    (map (edge_at l.graph.ends) l.forest) l.from l.paths

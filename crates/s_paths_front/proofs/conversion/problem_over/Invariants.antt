use Rattle.std.proofs.Common.{◌≡◌, length, take}
use Rattle.graph_problems.specs.PathLines.{paths_problem}
use Rattle.path_theory.specs.Classes.{class_of, is_terminal}
use Rattle.s_paths_front.proofs.conversion.problem_over.Given as goal

abbrev pub invariant-loop-edge : goal.invariant-loop-edge
invariant-loop-edge g l = l.problem ≡ paths_problem g.F.Field.scalars (g.F.Field.number l.minus) (length l.graph.names)
    (is_terminal l.graph.classes) (class_of l.graph.classes) (take l.edge l.graph.ends)

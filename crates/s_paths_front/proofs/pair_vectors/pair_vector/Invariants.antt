use Rattle.std.proofs.Common.{◌≡◌, map}
use Rattle.graph_problems.specs.PathLines.{pair_vector}
use Rattle.path_theory.specs.Classes.{class_of, is_terminal}
use Rattle.s_paths_front.proofs.pair_vectors.pair_vector.Given as goal

abbrev pub invariant-loop-at : goal.invariant-loop-at
invariant-loop-at g l = map g.F.Field.number l.vector.items ≡ pair_vector g.F.Field.scalars (g.F.Field.number l.minus) l.at
    (is_terminal l.graph.classes) (class_of l.graph.classes) l.vertex (g.F.Field.number l.x) (g.F.Field.number l.y)

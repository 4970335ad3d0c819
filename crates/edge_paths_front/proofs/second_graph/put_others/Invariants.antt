use Rattle.std.proofs.Common.{◌≡◌, ◌+◌, ◌-◌, length}
use Rattle.graph_theory.specs.Walks.{edge_at}
use Rattle.path_theory.specs.Classes.{is_terminal}
use Rattle.edge_path_theory.specs.SecondGraph.{others}
use Rattle.edge_paths_front.specs.SecondGraphs.{with_edges}
use Rattle.edge_paths_front.proofs.second_graph.put_others.Given as goal

abbrev pub invariant-loop-dart : goal.invariant-loop-dart
invariant-loop-dart l = with_edges l.second (others (edge_at l.graph.ends) (is_terminal l.graph.classes) l.dart
    (length l.graph.ends + length l.graph.ends - l.dart))
    ≡ with_edges l.initial.second (others (edge_at l.graph.ends) (is_terminal l.graph.classes) 0
    (length l.graph.ends + length l.graph.ends))

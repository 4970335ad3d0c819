use Rattle.std.proofs.Common.{◌≡◌, ◌+◌, ◌-◌, length, map}
use Rattle.std.specs.List.{filter}
use Rattle.graph_theory.specs.Numbers.{numbers_from}
use Rattle.graph_theory.specs.Walks.{edge_at}
use Rattle.path_theory.specs.Classes.{is_terminal}
use Rattle.edge_path_theory.specs.SecondGraph.{joins, later}
use Rattle.edge_paths_front.specs.SecondGraphs.{with_edges}
use Rattle.edge_paths_front.proofs.second_graph.put_later.Given as goal

abbrev pub invariant-loop-other : goal.invariant-loop-other
invariant-loop-other l = with_edges l.second (map (λ x. (l.dart, x))
    (filter (joins (edge_at l.graph.ends) (is_terminal l.graph.classes) l.dart)
    (numbers_from l.other (length l.graph.ends + length l.graph.ends - l.other))))
    ≡ with_edges l.initial.second (later (edge_at l.graph.ends) (is_terminal l.graph.classes) l.dart
    (length l.graph.ends + length l.graph.ends - (l.dart + 1)))

use Rattle.std.proofs.Common.{◌≡◌, [], map}
use Rattle.std.specs.Fmt.{decimal}
use Rattle.graph_theory.specs.Numbers.{numbers_from}
use Rattle.edge_paths_front.specs.SecondGraphs.{class_left}
use Rattle.edge_paths_front.proofs.second_graph.lone_darts.Given as goal

abbrev pub invariant-loop-dart : goal.invariant-loop-dart
invariant-loop-dart l = l.second ≡ record {
  names = map decimal (numbers_from 0 l.dart);
  ends = [];
  classes = map (class_left l.graph) (numbers_from 0 l.dart);
}

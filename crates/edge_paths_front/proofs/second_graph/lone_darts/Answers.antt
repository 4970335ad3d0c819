use Rattle.std.proofs.Common.{length, None, ap, ◌∙◌}
use Rattle.std.specs.Prelude.{slice_index_or}
use Rattle.graph_core.specs.NamedGraphs.{NamedGraph}
use Rattle.edge_paths_front.specs.SecondGraphs.{class_left, with_dart}
use Rattle.edge_paths_front.proofs.EdgeSteps.{dart_added, darts_counted}
use Rattle.edge_paths_front.proofs.second_graph.lone_darts.Goals as goal

pub put_dart-requires-clause-classes : goal.put_dart-requires-clause-classes
put_dart-requires-clause-classes c = ap (λ (z : NamedGraph). length z.classes) c.loop-dart.invariant
    ∙ darts_counted (class_left c.args.graph.now) c.loop-dart.dart

pub loop-dart-preserved : goal.loop-dart-preserved
loop-dart-preserved c = dart_added c.loop-dart.second c.put_dart.new.second c.loop-dart.dart (class_left c.args.graph.now)
    c.loop-dart.invariant (c.in_ok-put_dart.ensures ∙ ap (with_dart c.loop-dart.second c.loop-dart.dart)
    (c.class.ensures ∙ ap (λ v. slice_index_or c.args.graph.now.classes v None) c.tail.ensures.value))

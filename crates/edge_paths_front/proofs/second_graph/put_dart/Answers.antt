use Rattle.std.proofs.Common.{sym, ap, ◌∙◌, arith}
use Rattle.edge_paths_front.specs.SecondGraphs.{with_dart}
use Rattle.edge_paths_front.proofs.EdgeSteps.{named_vertex, new_vertex, unclassed, in_class}
use Rattle.edge_paths_front.proofs.second_graph.put_dart.Goals as goal

pub put_class-requires-clause-vertex : goal.put_class-requires-clause-vertex
put_class-requires-clause-vertex c = new_vertex c.args.second.now c.vertex.new.self c.args.dart
    (named_vertex c.args.second.now c.vertex.new.self c.args.dart c.as_bytes.result.now (c.as_bytes.ensures.value ∙ c.format.ensures.text)
    (omega arith) c.requires.names c.in_ok-vertex.ensures.added) c.requires.names

pub put_class-requires-clause-unclassed : goal.put_class-requires-clause-unclassed
put_class-requires-clause-unclassed c = unclassed c.args.second.now c.vertex.new.self c.args.dart
    (named_vertex c.args.second.now c.vertex.new.self c.args.dart c.as_bytes.result.now (c.as_bytes.ensures.value ∙ c.format.ensures.text)
    (omega arith) c.requires.names c.in_ok-vertex.ensures.added) c.requires.classes

pub returns-in-Some : goal.returns-in-Some
returns-in-Some c = in_class c.args.second.now c.vertex.new.self c.args.dart
    (named_vertex c.args.second.now c.vertex.new.self c.args.dart c.as_bytes.result.now (c.as_bytes.ensures.value ∙ c.format.ensures.text)
    (omega arith) c.requires.names c.in_ok-vertex.ensures.added) c.requires.classes c.put_class.new.self c.in-Some.class c.put_class.ensures
    ∙ ap (with_dart c.args.second.now c.args.dart) (sym c.in-Some.is)

pub returns-in_default : goal.returns-in_default
returns-in_default c = named_vertex c.args.second.now c.vertex.new.self c.args.dart c.as_bytes.result.now
    (c.as_bytes.ensures.value ∙ c.format.ensures.text) (omega arith) c.requires.names c.in_ok-vertex.ensures.added
    ∙ ap (with_dart c.args.second.now c.args.dart) (sym c.in_default.is)

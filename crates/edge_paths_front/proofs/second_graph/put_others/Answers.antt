use Rattle.std.proofs.Common.{ℕ, ◌+◌, length, arith}
use Rattle.graph_theory.specs.Walks.{edge_at}
use Rattle.path_theory.specs.Classes.{is_terminal}
use Rattle.edge_path_theory.specs.SecondGraph.{others}
use Rattle.edge_paths_front.proofs.EdgeSteps.{others_put}
use Rattle.edge_paths_front.proofs.second_graph.put_others.Goals as goal

pub loop-dart-preserved : goal.loop-dart-preserved
loop-dart-preserved c =
    let ends = edge_at c.args.graph.now.ends in
    let terminal = is_terminal c.args.graph.now.classes in
    let n : ℕ = length c.args.graph.now.ends + length c.args.graph.now.ends in
    others_put ends terminal c.loop-dart.second c.args.second.now c.put_later.new.second c.loop-dart.dart n (others ends terminal 0 n)
    (omega arith) c.loop-dart.invariant c.in_ok-put_later.ensures

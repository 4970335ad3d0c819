use Rattle.std.proofs.Common.{◌≡◌, ◌%◌, arith}
use Rattle.graph_theory.specs.Walks.{edge_at}
use Rattle.edge_paths_front.proofs.DartSteps.{tail_of_even, tail_of_odd}
use Rattle.edge_paths_front.proofs.darts.tail.Goals as goal

pub returns-then-dart-eq0-clause-value : goal.returns-then-dart-eq0-clause-value
returns-then-dart-eq0-clause-value c = let z : c.args.dart % 2 ≡ 0 = omega (arith, c.if-dart-eq0.true) in
    tail_of_even (edge_at c.args.graph.now.ends) c.args.dart c.ends-ends.result z c.ends-ends.ensures.value

pub returns-else-dart-eq0-clause-value : goal.returns-else-dart-eq0-clause-value
returns-else-dart-eq0-clause-value c = let z : c.args.dart % 2 ≡ 1 = omega (arith, c.if-dart-eq0.false) in
    tail_of_odd (edge_at c.args.graph.now.ends) c.args.dart c.ends-ends.result z c.ends-ends.ensures.value

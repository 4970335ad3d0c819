use Rattle.std.proofs.Common.{◌≡◌, ◌%◌, arith}
use Rattle.edge_paths_front.proofs.DartSteps.{reverse_even, reverse_odd}
use Rattle.edge_paths_front.proofs.darts.reverse.Goals as goal

pub returns-then-dart-eq0 : goal.returns-then-dart-eq0
returns-then-dart-eq0 c = let z : c.args.dart % 2 ≡ 0 = omega (arith, c.if-dart-eq0.true) in reverse_even c.args.dart z

pub returns-else-dart-eq0 : goal.returns-else-dart-eq0
returns-else-dart-eq0 c = let z : c.args.dart % 2 ≡ 1 = omega (arith, c.if-dart-eq0.false) in reverse_odd c.args.dart z

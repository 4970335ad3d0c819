use Rattle.std.proofs.Common.{arith}
use Rattle.rotation_system.proofs.DartSteps.{rev_even, rev_odd}
use Rattle.rotation_system.proofs.walks.reverse.Goals as goal

pub returns-then-dart-eq0 : goal.returns-then-dart-eq0
returns-then-dart-eq0 c = rev_even c.args.dart (omega arith)

pub returns-else-dart-eq0 : goal.returns-else-dart-eq0
returns-else-dart-eq0 c = rev_odd c.args.dart (λ q. omega (arith, q))

use Rattle.std.proofs.Common.{arith}
use Rattle.rotation_system.proofs.DartLists.{none_counted}
use Rattle.rotation_system.proofs.darts.index_of.Goals as goal

pub returns-clause-within : goal.returns-clause-within
returns-clause-within c = absurd (omega (
  arith,
  c.requires,
  none_counted c.args.dart c.args.darts.now (λ k l. c.loop-i.invariant k (omega arith)),
))

pub returns-clause-found : goal.returns-clause-found
returns-clause-found c = absurd (omega (
  arith,
  c.requires,
  none_counted c.args.dart c.args.darts.now (λ k l. c.loop-i.invariant k (omega arith)),
))

use Rattle.std.proofs.Common.{subst}
use Rattle.rotation_system.specs.PlacedDarts.{ArePut}
use Rattle.rotation_system.proofs.growth.put_last.Goals as goal

pub returns-clause-put : goal.returns-clause-put
returns-clause-put c = record {
  p = c.last_at-first.result;
  q = c.last_at-second.result;
  put = subst (λ d. ArePut c.args.lists.now c.args.ends c.last_at-first.result c.last_at-second.result d c.insert.new.self)
      c.first_dart-dart.ensures.value c.in_ok-insert.ensures.inserted;
}

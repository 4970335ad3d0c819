use Rattle.std.proofs.Common.{refl, sym, arith}
use Rattle.std.proofs.lemmas.Bool.{true≢false}
use Rattle.rotation_system.proofs.DartLists.{none_counted}
use Rattle.rotation_system.proofs.DartSteps.{counted_at}
use Rattle.rotation_system.proofs.walks.stands.Goals as goal

pub returns : goal.returns
returns c = (
  λ h. absurd (true≢false (sym h)),
  λ i. absurd (omega (arith, i, none_counted c.args.dart c.args.darts.now (λ k l. c.loop-i.invariant k (omega arith)))),
)

pub returns-then-darts-i : goal.returns-then-darts-i
returns-then-darts-i c = (λ h. counted_at c.args.dart c.loop-i.i c.args.darts.now (omega arith) (omega arith), λ i. refl)

use Rattle.std.proofs.Common.{◌-◌, arith, refl, sym}
use Rattle.std.proofs.lemmas.Bool.{true≢false}
use Rattle.edge_lists.specs.Occurrences.{count_all}
use Rattle.rotation_theory.specs.Darts.{dart}
use Rattle.rotation_system.proofs.DartSteps.{keep_none, keep_one}
use Rattle.rotation_system.proofs.rotation.Rotation.held_at.Goals as goal

pub returns-then-holds-clause-value : goal.returns-then-holds-clause-value
returns-then-holds-clause-value c = keep_one (λ e. 1 - count_all (dart e) c.args.self.now.lists) c.args.edge
    (omega (arith, c.if-holds.ensures.0 refl))

pub returns-else-holds-clause-value : goal.returns-else-holds-clause-value
returns-else-holds-clause-value c = keep_none (λ e. 1 - count_all (dart e) c.args.self.now.lists) c.args.edge
    (λ q. true≢false (sym (c.if-holds.ensures.1 (omega (arith, q)))))

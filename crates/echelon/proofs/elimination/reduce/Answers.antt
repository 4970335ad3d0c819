use Rattle.std.proofs.Common.{map}
use Rattle.echelon.proofs.Loops.{reduced-none, reduced_more}
use Rattle.echelon.proofs.elimination.reduce.Goals as goal

pub loop-step-init : goal.loop-step-init
loop-step-init g c = reduced-none g.row.F.Denot g.F.Field.scalars (map g.F.Field.number c.args.v.now)

pub loop-step-preserved : goal.loop-step-preserved
loop-step-preserved g c =
    let f = g.F.Field.number in
    reduced_more g.F.Field.scalars c.args.steps.now c.loop-step.step-index c.step-item.result (map f c.args.v.now) (map f c.loop-step.v) (map f c.eliminate-factor.new.v)
    c.loop-step-test.true c.step-item.is c.loop-step.invariant c.eliminate-factor.ensures.rest

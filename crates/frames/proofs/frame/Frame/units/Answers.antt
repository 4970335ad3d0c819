use Rattle.frames.proofs.Steps.{units_frame}
use Rattle.frames.proofs.frame.Frame.units.Goals as goal

pub invariant_of-result : goal.invariant_of-result
invariant_of-result g c =
    units_frame g.F.Field.scalars g.met.F.Field.lawful c.in_ok-basis.basis c.args.width c.new.result.items c.in_ok-basis.ensures c.new.ensures.items

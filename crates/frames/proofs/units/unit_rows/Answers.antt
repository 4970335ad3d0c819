use Rattle.std.proofs.Common.{map, ◌∙◌}
use Rattle.frames.proofs.Steps.{units_more}
use Rattle.frames.proofs.units.unit_rows.Goals as goal

pub loop-i-preserved : goal.loop-i-preserved
loop-i-preserved g c =
    units_more g.F.Field.scalars c.args.width c.loop-i.i c.loop-i.rows c.push.new.self (map g.F.Field.number c.as_slice.result.now) c.loop-i.invariant
    (c.as_slice.ensures.value ∙ c.in_ok-unit.ensures) c.in_ok-push.ensures.ok

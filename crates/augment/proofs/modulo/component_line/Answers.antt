use Rattle.std.proofs.Common.{map, below_more, arith}
use Rattle.matching_state.proofs.FoundSupports.{zero_window}
use Rattle.augment.proofs.PointComponents.{component_seen}
use Rattle.augment.proofs.modulo.component_line.Goals as goal

pub returns-then-not-is_zero : goal.returns-then-not-is_zero
returns-then-not-is_zero g c =
    let window = zero_window g.F.Field.scalars g.F.Field.number c.args.coordinates.now c.loop-i.i (omega arith) in
    component_seen g.F.Field.scalars c.args.set.now (map g.F.Field.number c.args.coordinates.now) c.loop-i.i c.at.result c.is_zero.result
    (omega arith)
    c.at.ensures c.if-not-is_zero.true (λ z. c.is_zero.ensures.1 (window.1 z))

pub loop-i-preserved : goal.loop-i-preserved
loop-i-preserved g c =
    let window = zero_window g.F.Field.scalars g.F.Field.number c.args.coordinates.now c.loop-i.i (omega arith) in
    below_more _ _ c.loop-i.invariant (window.0 (c.is_zero.ensures.0 c.if-not-is_zero.false))

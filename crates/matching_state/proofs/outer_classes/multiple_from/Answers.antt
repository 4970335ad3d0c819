use Rattle.std.proofs.Common.{arith}
use Rattle.matching_state.proofs.TailSteps.{tail_pushed}
use Rattle.matching_state.proofs.outer_classes.multiple_from.Goals as goal

pub loop-i-preserved : goal.loop-i-preserved
loop-i-preserved g c =
    let S = g.F.Field.scalars in
    let f = g.F.Field.number c.args.factor in
    let i = c.loop-i.i in
    let start = c.loop-i.invariant.0 in
    let inside = c.loop-i-test.true in
    let end = c.len-i-end.ensures in (
      omega arith,
      tail_pushed S f c.args.from i c.args.row.now start (omega arith) c.loop-i.tail.items c.push.new.self.items c.number.result (g.F.Field.number c.mul.result) (g.F.Field.number c.get.result)
          c.in_ok-push.ensures.items c.loop-i.invariant.1 c.number.ensures c.mul.ensures c.get.ensures,
    )

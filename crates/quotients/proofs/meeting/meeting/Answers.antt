use Rattle.std.proofs.Common.{map, ◌∙◌, arith}
use Rattle.field_core.proofs.Values.{vector_of_values}
use Rattle.quotients.proofs.Walks.{walk_next, walk_ended}
use Rattle.quotients.proofs.meeting.meeting.Goals as goal

pub loop-i-preserved : goal.loop-i-preserved
loop-i-preserved g c =
    let S = g.F.Field.scalars in
    let f = g.F.Field.number in
    let us = c.args.us.now in
    let w = c.row.result.now in
    walk_next S g.met.F.Field.lawful us c.args.ws.now.rows c.loop-i.walk c.take.new.walk c.loop-i.i (map f w) (omega arith) c.row.ensures.value
    (vector_of_values S f g.met.F.Field.is_scalar w us.width (c.row.ensures.len ∙ c.requires)) c.loop-i.invariant c.in_ok-take.ensures

pub returns : goal.returns
returns g c = walk_ended g.F.Field.scalars g.met.F.Field.lawful c.args.us.now c.args.ws.now c.loop-i.walk c.loop-i.i (omega arith) c.loop-i.invariant

use Rattle.std.proofs.Common.{map, sym, ◌∙◌}
use Rattle.quotients.proofs.Results.{ok_then}
use Rattle.quotients.proofs.Taking.{takes_old}
use Rattle.quotients.proofs.meeting.take.Goals as goal

pub push-requires-in-Old : goal.push-requires-in-Old
push-requires-in-Old g c = c.as_slice-in-Old.ensures.len ∙ c.in_ok-part-in-Old.ensures.vector.length_is ∙ c.requires.added ∙ sym c.requires.common

pub returns-in_ok-part-in-Old : goal.returns-in_ok-part-in-Old
returns-in_ok-part-in-Old g c =
    let before = c.args.walk.now in
    ok_then c.push-in-Old.result c.push-in-Old.ensures.ok (
    takes_old g.F.Field.scalars g.F.Field.number before.basis before.added before.common c.insert.new.self c.push-in-Old.new.self (map g.F.Field.number c.args.w.now) c.in_ok-insert.field-0 c.in-Old.coefficients
    c.as_slice.result.now c.rank.result c.len.result c.in_ok-part-in-Old.part (map g.F.Field.number c.as_slice-in-Old.result.now)
    c.in-Old.is c.in_ok-insert.ensures.ok c.as_slice.ensures.value c.rank.ensures.value c.len.ensures.value
    c.requires.added c.in_ok-part-in-Old.ensures.vector c.in_ok-part-in-Old.ensures.sum c.as_slice-in-Old.ensures.value)

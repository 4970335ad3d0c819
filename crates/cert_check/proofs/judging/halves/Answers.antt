use Rattle.std.proofs.Common.{arith}
use Rattle.cert_check.proofs.Halves.{rank_at, halves_fit, halves_few}
use Rattle.cert_check.proofs.judging.halves.Goals as goal

pub overflow_add-total : goal.overflow_add-total
overflow_add-total g c =
    let S = g.F.Field.scalars in
    let p = c.args.problem.now in
    let rows = c.args.basis.now.rows in
    let rank = rank_at S p c.loop-i.basis c.args.basis.now c.at.result.now c.args.parts.now c.loop-i.i c.in_ok-total.field-0
    c.in_ok-total.ensures.rank c.loop-i.invariant.same c.at.ensures in
    let fits = halves_fit S g.met.F.Field.lawful p c.len-lines.ensures.problem rows c.requires.vectors c.args.parts.now c.loop-i.i
    c.in_ok-total.field-0 c.loop-i.total
    c.len-i-end.ensures.parts c.requires.within c.requires.disjoint (omega arith) rank c.loop-i.invariant.summed in
    omega arith

pub returns-clause-few : goal.returns-clause-few
returns-clause-few g c =
    halves_few g.F.Field.scalars g.met.F.Field.lawful c.args.problem.now c.len-lines.ensures.problem c.args.basis.now.rows
    c.requires.vectors c.args.parts.now c.loop-i.i c.loop-i.total
    c.len-i-end.ensures.parts c.requires.within c.requires.disjoint (omega arith) c.loop-i.invariant.summed

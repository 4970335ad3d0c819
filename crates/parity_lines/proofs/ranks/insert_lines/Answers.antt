use Rattle.std.proofs.Common.{map, arith}
use Rattle.field_core.proofs.Values.{vector_of_values}
use Rattle.parity_lines.proofs.Growth.{grown_by_none, grown_by_line}
use Rattle.parity_lines.proofs.ranks.insert_lines.Goals as goal

pub loop-i-init : goal.loop-i-init
loop-i-init g c = grown_by_none g.F.Field.scalars g.met.F.Field.lawful c.args.problem.now c.args.basis.now c.requires.vectors

pub loop-i-preserved : goal.loop-i-preserved
loop-i-preserved g c =
    let S = g.F.Field.scalars in
    let f = g.F.Field.number in
    let vector = vector_of_values S f g.met.F.Field.is_scalar in
    let d = c.args.problem.now.dimension in
    grown_by_line S g.met.F.Field.lawful c.args.problem.now c.args.part.now c.loop-i.i c.at-line.result (map f c.first.result.now) (map f c.second.result.now)
    c.args.basis.now c.loop-i.basis c.insert.new.self c.insert-in-loop-i.new.self c.in_ok-_first._first c.in_ok-_second._second
    c.requires.width c.requires.vectors (omega arith) c.at-line.ensures c.first.ensures.value c.second.ensures.value
    (vector c.first.result.now d c.first.ensures.long) (vector c.second.result.now d c.second.ensures.long)
    c.loop-i.invariant c.in_ok-_first.ensures.ok c.in_ok-_second.ensures.ok

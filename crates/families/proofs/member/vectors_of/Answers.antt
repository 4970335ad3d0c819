use Rattle.std.proofs.Common.{map, arith}
use Rattle.families.proofs.LineVectors.{no_line_taken, line_taken}
use Rattle.families.proofs.member.vectors_of.Goals as goal

pub loop-i-init : goal.loop-i-init
loop-i-init g c = no_line_taken c.args.problem.now c.new-rows.result c.dimension.result c.dimension.ensures c.new-rows.ensures

pub loop-i-preserved : goal.loop-i-preserved
loop-i-preserved g c = line_taken c.args.problem.now c.args.set.now c.loop-i.i c.at-line.result (map g.F.Field.number c.first.result.now)
    (map g.F.Field.number c.second.result.now) c.loop-i.rows c.push.new.self c.push-in-loop-i.new.self (omega arith) c.at-line.ensures
    c.first.ensures.value c.second.ensures.value c.loop-i.invariant c.in_ok-push.ensures.ok c.in_ok-push-2.ensures.ok

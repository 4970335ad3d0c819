use Rattle.std.proofs.Common.{◌<◌, length, arith}
use Rattle.search.proofs.FirstLines.{one_more_below}
use Rattle.search.proofs.repeats.first_lines.Goals as goal

pub loop-line-preserved : goal.loop-line-preserved
loop-line-preserved g c =
    let n = length c.args.problem.now.lines in
    let here : c.loop-line.line < n = omega arith in
    let first = c.in_ok-first.ensures.first n here c.loop-line.invariant.known in
    let more = one_more_below n c.loop-line.line c.in_ok-first.first c.loop-line.firsts.items c.push.new.self.items c.in_ok-push.ensures.items
    first c.loop-line.invariant.one_each c.loop-line.invariant.within in
    record {
      known = c.known_by.ensures.known n here c.loop-line.invariant.known;
      one_each = more.0;
      within = more.1;
    }

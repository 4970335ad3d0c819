use Rattle.search.proofs.Ranges.{one_more}
use Rattle.search.proofs.greedy.lines_below.Goals as goal

pub loop-line-preserved : goal.loop-line-preserved
loop-line-preserved c = one_more _ _ _ c.loop-line.invariant c.in_ok-push.ensures.ok

use Rattle.search.proofs.Ranges.{AreAllBelow}
use Rattle.search.proofs.greedy.lines_below.Given as goal

abbrev pub invariant-loop-line : goal.invariant-loop-line
invariant-loop-line l = AreAllBelow l.line l.set

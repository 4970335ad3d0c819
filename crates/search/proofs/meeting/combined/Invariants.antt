use Rattle.std.proofs.Common.{◌≡◌, length}
use Rattle.search.proofs.meeting.combined.Given as goal

abbrev pub invariant-loop-i : goal.invariant-loop-i
invariant-loop-i g l = length l.v ≡ l.problem.dimension

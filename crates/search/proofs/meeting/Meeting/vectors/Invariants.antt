use Rattle.std.proofs.Common.{◌≡◌}
use Rattle.search.proofs.meeting.Meeting.vectors.Given as goal

abbrev pub invariant-loop-row : goal.invariant-loop-row
invariant-loop-row g l = l.vectors.width ≡ l.state.problem.dimension

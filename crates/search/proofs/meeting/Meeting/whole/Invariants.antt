use Rattle.search.specs.Meetings.{ArePairs}
use Rattle.search.proofs.meeting.Meeting.whole.Given as goal

abbrev pub invariant-loop-i : goal.invariant-loop-i
invariant-loop-i g l = ArePairs l.lines l.rows.items

use Rattle.std.proofs.Common.{◌≡◌, vec_len}
use Rattle.search.proofs.meeting.Meeting.pairs.Given as goal

abbrev pub invariant-loop-i : goal.invariant-loop-i
invariant-loop-i g l = vec_len l.pairs ≡ l.i

use Rattle.std.proofs.Common.{◌≡◌, ◌*◌, vec_len}
use Rattle.search.proofs.meeting.zero_pairs.Given as goal

abbrev pub invariant-loop-line : goal.invariant-loop-line
invariant-loop-line g l = vec_len l.zeros ≡ 2 * l._line

use Rattle.std.proofs.Common.{◌≡◌, ◌*◌, vec_len}
use Rattle.search.proofs.exchanging.tip_of.Given as goal

abbrev pub invariant-loop-i : goal.invariant-loop-i
invariant-loop-i g l = vec_len l.tip ≡ 2 * l.i

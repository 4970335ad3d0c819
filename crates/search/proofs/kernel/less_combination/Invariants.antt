use Rattle.std.proofs.Common.{◌≡◌, length}
use Rattle.search.proofs.kernel.less_combination.Given as goal

abbrev pub invariant-loop-i : goal.invariant-loop-i
invariant-loop-i g l = length l.left ≡ length l.v

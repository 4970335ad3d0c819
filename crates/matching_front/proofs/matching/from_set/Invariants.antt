use Rattle.std.proofs.Common.{◌≡◌, take}
use Rattle.matching_front.proofs.matching.from_set.Given as goal

abbrev pub invariant-loop-i : goal.invariant-loop-i
invariant-loop-i l = l.edges ≡ take l.i l.set

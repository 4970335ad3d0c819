use Rattle.std.proofs.Common.{◌≡◌, take}
use Rattle.families.proofs.LineVectors.{lines_taken}
use Rattle.families.proofs.member.vectors_of.Given as goal

abbrev pub invariant-loop-i : goal.invariant-loop-i
invariant-loop-i g l = l.rows ≡ lines_taken l.problem (take l.i l.set)

use Rattle.std.proofs.Common.{◌≡◌, take}
use Rattle.genus_front.specs.GenusProblems.{pairs_problem}
use Rattle.genus_front.proofs.conversion.problem_of.Given as goal

abbrev pub invariant-loop-i : goal.invariant-loop-i
invariant-loop-i g l = l.problem ≡ pairs_problem l.rows (take l.i l.pairs)

use Rattle.std.proofs.Common.{◌≡◌, ◌++◌, take}
use Rattle.quotients.proofs.subspace.append.Given as goal

abbrev pub invariant-loop-i : goal.invariant-loop-i
invariant-loop-i g l = l.rows ≡ record l.initial.rows { rows = l.initial.rows.rows ++ take l.i l.others.rows }

use Rattle.packed_rows.specs.Words.{AreZero}
use Rattle.packed_rows.proofs.lanes.are_zero.Given as goal

abbrev pub invariant-loop-i : goal.invariant-loop-i
invariant-loop-i l = AreZero l.i l.words

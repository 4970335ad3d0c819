use Rattle.packed_rows.specs.Words.{AreAdded}
use Rattle.packed_rows.proofs.lanes.add_words.Given as goal

abbrev pub invariant-loop-i : goal.invariant-loop-i
invariant-loop-i l = AreAdded l.i l.fn.target l.source l.target

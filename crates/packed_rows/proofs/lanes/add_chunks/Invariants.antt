use Rattle.std.proofs.Common.{◌*◌}
use Rattle.packed_rows.specs.Words.{AreAdded}
use Rattle.packed_rows.proofs.lanes.add_chunks.Given as goal

abbrev pub invariant-loop-i : goal.invariant-loop-i
invariant-loop-i l = AreAdded (4 * l.i) l.initial.target l.source l.target

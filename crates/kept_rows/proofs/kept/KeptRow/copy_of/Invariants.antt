use Rattle.packed_rows.proofs.Writes.{IsWritten, numbers}
use Rattle.kept_rows.proofs.kept.KeptRow.copy_of.Given as goal

abbrev pub invariant-loop-i : goal.invariant-loop-i
invariant-loop-i g l = IsWritten l.i (numbers l.v g.F.Field.number) l.row

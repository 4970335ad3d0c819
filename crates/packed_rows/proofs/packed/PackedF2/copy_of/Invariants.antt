use Rattle.packed_rows.proofs.Writes.{IsWritten, numbers}
use Rattle.packed_rows.proofs.packed.PackedF2.copy_of.Given as goal

abbrev pub invariant-loop-i : goal.invariant-loop-i
invariant-loop-i l = IsWritten l.i (numbers l.v (λ x. x.value)) l.row

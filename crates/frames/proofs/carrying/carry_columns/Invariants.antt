use Rattle.std.proofs.Common.{◌≡◌}
use Rattle.packed_rows.specs.Carried.{carried}
use Rattle.frames.proofs.Walks.{AreChanged}
use Rattle.frames.proofs.carrying.carry_columns.Given as goal

abbrev pub invariant-loop-t : goal.invariant-loop-t
invariant-loop-t g l = AreChanged (λ list changed. changed ≡ carried list l.from l.to) l.initial.lists l.lists l.t

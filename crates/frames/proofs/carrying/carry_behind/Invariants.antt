use Rattle.std.proofs.Common.{◌≡◌}
use Rattle.packed_rows.specs.Carried.{carried}
use Rattle.frames.proofs.carrying.carry_behind.Given as goal

abbrev pub invariant-loop-at : goal.invariant-loop-at
invariant-loop-at g l = l.rows ≡ record l.initial.rows { rows = carried l.initial.rows.rows l.from l.at }

use Rattle.std.proofs.Common.{◌≡◌, ◌≤◌}
use Rattle.packed_rows.specs.Carried.{carried}
use Rattle.frames.proofs.carrying.carry_before.Given as goal

abbrev pub invariant-loop-at : goal.invariant-loop-at
invariant-loop-at g l = record {
  above : l.to ≤ l.at;
  below : l.at ≤ l.from;
  rows : l.rows ≡ record l.initial.rows { rows = carried l.initial.rows.rows l.from l.at };
}

abbrev pub decreases-loop-at : goal.decreases-loop-at
decreases-loop-at g l = l.at

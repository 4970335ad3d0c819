use Rattle.std.proofs.Common.{◌≡◌, ◌≤◌, length}
use Rattle.packed_rows.specs.Packed.{element}
use Rattle.packed_rows.specs.Shifts.{AreShifted}
use Rattle.packed_rows.proofs.carrying.raise.Given as goal

abbrev pub invariant-loop-at : goal.invariant-loop-at
invariant-loop-at l = record {
  started : l.at ≤ l.from;
  within : l.to ≤ l.at;
  long : length l.words ≡ length l.initial.words;
  shifted : AreShifted l.from l.at (element l.initial.words) (element l.words);
}

abbrev pub decreases-loop-at : goal.decreases-loop-at
decreases-loop-at l = l.at

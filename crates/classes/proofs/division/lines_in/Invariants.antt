use Rattle.std.proofs.Common.{◌≡◌, ◌≤◌, take}
use Rattle.class_theory.proofs.Classes.{count_in}
use Rattle.parity_theory.proofs.Parts.{has}
use Rattle.classes.proofs.division.lines_in.Given as goal

abbrev pub invariant-loop-i : goal.invariant-loop-i
invariant-loop-i l = record {
  is : l.count ≡ count_in (has l.class) (take l.i l.set);
  small : l.count ≤ l.i;
}

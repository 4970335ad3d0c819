use Rattle.std.proofs.Common.{ℕ, ◌<◌, length}
use Rattle.classes.specs.ClassLabels.{AreExactFor}
use Rattle.classes.specs.Tables.{akin_at}
use Rattle.classes.proofs.labels.labels_of.Given as goal

abbrev pub invariant-loop-i : goal.invariant-loop-i
invariant-loop-i l = (k : ℕ) → k < l.i → AreExactFor (length l.table.live) (akin_at l.table) k

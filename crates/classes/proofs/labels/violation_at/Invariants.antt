use Rattle.std.proofs.Common.{ℕ, ◌<◌}
use Rattle.class_theory.proofs.Labels.{ExactAt}
use Rattle.classes.specs.Tables.{akin_at}
use Rattle.classes.proofs.labels.violation_at.Given as goal

abbrev pub invariant-loop-j : goal.invariant-loop-j
invariant-loop-j l = (k : ℕ) → k < l.j → ExactAt (akin_at l.table) l.i k

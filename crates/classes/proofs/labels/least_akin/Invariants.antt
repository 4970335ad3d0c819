use Rattle.std.proofs.Common.{◌≡◌, ℕ, ◌<◌, false}
use Rattle.classes.specs.Tables.{akin_at}
use Rattle.classes.proofs.labels.least_akin.Given as goal

abbrev pub invariant-loop-i : goal.invariant-loop-i
invariant-loop-i l = (k : ℕ) → k < l.i → akin_at l.table l.line k ≡ false

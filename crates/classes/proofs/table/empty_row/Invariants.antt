use Rattle.std.proofs.Common.{◌≡◌, replicate, None, ℕ, Option}
use Rattle.classes.proofs.table.empty_row.Given as goal

abbrev pub invariant-loop-line : goal.invariant-loop-line
invariant-loop-line l = l.members.items ≡ replicate {A = Option ℕ} l._line None

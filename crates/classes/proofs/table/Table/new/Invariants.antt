use Rattle.std.proofs.Common.{◌≡◌, ℕ, List, Option, None, length, replicate}
use Rattle.classes.proofs.table.Table.new.Given as goal

abbrev pub invariant-loop-line : goal.invariant-loop-line
invariant-loop-line g l = l.rows.items ≡ replicate {A = List (Option ℕ)} l._line (replicate (length l.problem.lines) None)

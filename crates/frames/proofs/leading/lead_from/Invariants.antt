use Rattle.std.proofs.Common.{◌≡◌, ◌<◌, ◌≤◌, ℕ, get_or}
use Rattle.frames.proofs.leading.lead_from.Given as goal

abbrev pub invariant-loop-i : goal.invariant-loop-i
invariant-loop-i g l = (j : ℕ) → l.from ≤ j → j < l.i → get_or l.row j 0 ≡ g.F.Field.scalars.zero

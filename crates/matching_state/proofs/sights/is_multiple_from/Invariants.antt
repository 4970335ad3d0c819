use Rattle.std.proofs.Common.{◌≡◌, ◌<◌, ◌≤◌, ℕ, get_or}
use Rattle.matching_state.proofs.sights.is_multiple_from.Given as goal

abbrev pub invariant-loop-i : goal.invariant-loop-i
invariant-loop-i g l = (j : ℕ) → l.from ≤ j → j < l.i → get_or l.other j 0 ≡ g.F.Field.scalars.product (g.F.Field.number l.factor) (get_or l.row j 0)

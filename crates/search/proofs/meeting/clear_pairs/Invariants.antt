use Rattle.std.proofs.Common.{◌≡◌, length, All}
use Rattle.search.proofs.meeting.clear_pairs.Given as goal

abbrev pub invariant-loop-row : goal.invariant-loop-row
invariant-loop-row g l = All (λ r. length r ≡ length l.gone) l.rows

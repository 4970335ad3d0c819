use Rattle.std.proofs.Common.{◌≡◌}
use Rattle.search.proofs.guessing.has_rank_within.Given as goal

abbrev pub invariant-loop-line : goal.invariant-loop-line
invariant-loop-line g l = l.basis.width ≡ l.problem.dimension

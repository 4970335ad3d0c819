use Rattle.std.proofs.Common.{◌≡◌}
use Rattle.search.proofs.outers.span_of_set.Given as goal

abbrev pub invariant-loop-i : goal.invariant-loop-i
invariant-loop-i g l = l.basis.width ≡ l.problem.dimension

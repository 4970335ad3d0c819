use Rattle.std.proofs.Common.{◌≡◌}
use Rattle.search.specs.Walkers.{IsOf}
use Rattle.search.proofs.searching.restarts.Given as goal

abbrev pub invariant-loop-walk : goal.invariant-loop-walk
invariant-loop-walk g l = record {
  walker : IsOf g.F.Field.scalars l.problem l.set l.walker;
  common : l.common.width ≡ l.problem.dimension;
}

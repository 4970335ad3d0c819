use Rattle.std.proofs.Common.{◌≡◌}
use Rattle.search.specs.Walkers.{IsOf}
use Rattle.search.proofs.searching.walks_by_class.Given as goal

abbrev pub invariant-loop-at : goal.invariant-loop-at
invariant-loop-at g l = record {
  walker : IsOf g.F.Field.scalars l.problem l.set l.walker;
  common : l.common.width ≡ l.problem.dimension;
}

use Rattle.std.proofs.Common.{sym, subst}
use Rattle.parity_lines.specs.LineSets.{IsIndependentSet}
use Rattle.matching_state.proofs.matched.Matched.started.Goals as goal

pub listed-requires : goal.listed-requires
listed-requires g c = subst (IsIndependentSet g.F.Field.scalars c.args.problem.now) (sym c.in_ok-set.ensures) c.requires

pub invariant_of-result : goal.invariant_of-result
invariant_of-result g c = record {
  independent = subst (IsIndependentSet g.F.Field.scalars c.args.problem.now) (sym c.in_ok-set.ensures) c.requires;
  listed = c.in_ok-frame.ensures;
}

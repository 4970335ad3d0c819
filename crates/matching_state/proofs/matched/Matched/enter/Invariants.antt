use Rattle.std.proofs.Common.{◌≡◌}
use Rattle.matching_state.proofs.SetsBetween.{IsEntering}
use Rattle.matching_state.proofs.matched.Matched.enter.Given as goal
use Rattle.parity_lines.specs.LineSets.{IsIndependentSet}

abbrev pub invariant-loop-i : goal.invariant-loop-i
invariant-loop-i g l = record {
  problem : l.self.problem ≡ l.fn.self.problem;
  independent : IsIndependentSet g.F.Field.scalars l.self.problem l.self.set;
  entering : IsEntering l.other l.self.set l.i;
}

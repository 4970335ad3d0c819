use Rattle.std.proofs.Common.{◌≡◌}
use Rattle.matching_state.proofs.SetsBetween.{IsLeaving}
use Rattle.matching_state.proofs.matched.Matched.leave.Given as goal

abbrev pub invariant-loop-i : goal.invariant-loop-i
invariant-loop-i g l = record {
  problem : l.self.problem ≡ l.fn.self.problem;
  leaving : IsLeaving l.lines l.other l.self.set l.i;
}

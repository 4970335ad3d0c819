use Rattle.std.proofs.Common.{◌≡◌}
use Rattle.search.proofs.settling.settle.Given as goal

abbrev pub invariant-loop-step : goal.invariant-loop-step
invariant-loop-step g l = l.state.problem ≡ l.initial.state.problem

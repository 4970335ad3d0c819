use Rattle.std.proofs.Common.{◌≡◌}
use Rattle.search.proofs.greedy.greedy_state.Given as goal

abbrev pub invariant-loop-i : goal.invariant-loop-i
invariant-loop-i g l = l.state.problem ≡ l.problem

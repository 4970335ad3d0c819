use Rattle.std.proofs.Common.{◌≡◌, ◌-◌, length}
use Rattle.augment.proofs.solver.grown.Given as goal

abbrev pub invariant-steps : goal.invariant-steps
invariant-steps g l = l.state.problem ≡ l.initial.state.problem

abbrev pub decreases-steps : goal.decreases-steps
decreases-steps g l = length l.initial.state.problem.lines - length l.state.set

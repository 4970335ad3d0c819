use Rattle.search.specs.Gathering.{Fits}
use Rattle.search.proofs.kernel.kernel_within.Given as goal

abbrev pub invariant-loop-i : goal.invariant-loop-i
invariant-loop-i g l = Fits l.gathering l.problem.dimension

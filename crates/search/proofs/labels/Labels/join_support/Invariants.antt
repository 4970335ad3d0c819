use Rattle.std.proofs.Common.{length}
use Rattle.search.specs.Notes.{AreOf}
use Rattle.search.proofs.labels.Labels.join_support.Given as goal

abbrev pub invariant-loop-i : goal.invariant-loop-i
invariant-loop-i g l = AreOf (length l.state.problem.lines) l.self

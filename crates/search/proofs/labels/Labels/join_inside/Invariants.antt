use Rattle.std.proofs.Common.{length}
use Rattle.search.specs.Notes.{AreOf}
use Rattle.search.proofs.labels.Labels.join_inside.Given as goal

abbrev pub invariant-loop-at : goal.invariant-loop-at
invariant-loop-at g l = AreOf (length l.state.problem.lines) l.self

use Rattle.std.proofs.Common.{length}
use Rattle.search.specs.Notes.{AreOf}
use Rattle.search.proofs.labels.Labels.join_firsts.Given as goal

abbrev pub invariant-loop-line : goal.invariant-loop-line
invariant-loop-line g l = AreOf (length l.firsts) l.self

use Rattle.std.proofs.Common.{length}
use Rattle.search.specs.Below.{ArePartsBelow}
use Rattle.search.proofs.labels.Labels.parts.Given as goal

abbrev pub invariant-loop-line : goal.invariant-loop-line
invariant-loop-line l = ArePartsBelow (length l.self.labels.items) l.parts

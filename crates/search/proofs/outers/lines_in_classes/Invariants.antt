use Rattle.std.proofs.Common.{◌<◌, length, All}
use Rattle.search.proofs.outers.lines_in_classes.Given as goal

abbrev pub invariant-loop-at : goal.invariant-loop-at
invariant-loop-at l = All (λ m. m < length l.firsts) l.lines.items

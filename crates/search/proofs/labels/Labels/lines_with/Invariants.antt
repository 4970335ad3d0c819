use Rattle.std.proofs.Common.{◌<◌, All}
use Rattle.search.proofs.labels.Labels.lines_with.Given as goal

abbrev pub invariant-loop-line : goal.invariant-loop-line
invariant-loop-line l = All (λ m. m < l.line) l.lines

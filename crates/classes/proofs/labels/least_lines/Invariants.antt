use Rattle.classes.specs.ClassLabels.{AreLabels}
use Rattle.classes.specs.Tables.{akin_at}
use Rattle.classes.proofs.labels.least_lines.Given as goal

abbrev pub invariant-loop-line : goal.invariant-loop-line
invariant-loop-line l = AreLabels l.line (akin_at l.table) l.labels.items

use Rattle.linear_algebra.specs.Scalars.{IsField}
use Rattle.classes.specs.Tables.{AreLive}
use Rattle.classes.proofs.table.live_lines.Given as goal

abbrev pub invariant-loop-line : goal.invariant-loop-line
invariant-loop-line g l = (L : IsField g.F.Field.scalars) → AreLive g.F.Field.scalars L l.problem l.line l.live.items

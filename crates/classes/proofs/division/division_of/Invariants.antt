use Rattle.classes.proofs.DivisionLaws.{IsDividedBelow}
use Rattle.classes.proofs.division.division_of.Given as goal

abbrev pub invariant-loop-line : goal.invariant-loop-line
invariant-loop-line g l = IsDividedBelow g.F.Field.scalars l.problem l.labels l.set l.line l.parts

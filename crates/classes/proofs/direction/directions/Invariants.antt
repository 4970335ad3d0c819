use Rattle.linear_algebra.specs.Scalars.{IsField}
use Rattle.classes.specs.Directions.{AreDirections}
use Rattle.classes.proofs.direction.directions.Given as goal

abbrev pub invariant-loop-line : goal.invariant-loop-line
invariant-loop-line g l = (L : IsField g.F.Field.scalars) → AreDirections g.F.Field.scalars L l.state.problem l.state.set l.line l.found.items

use Rattle.std.proofs.Common.{map}
use Rattle.linear_algebra.specs.Scalars.{IsField}
use Rattle.classes.proofs.SpreadParts.{IsPartBelow}
use Rattle.classes.proofs.spreads.part_of.Given as goal

abbrev pub invariant-loop-i : goal.invariant-loop-i
invariant-loop-i g l = (L : IsField g.F.Field.scalars) →
    IsPartBelow g.F.Field.scalars L l.problem l.labels l.label l.set (map g.F.Field.number l.coordinates) l.i l.part

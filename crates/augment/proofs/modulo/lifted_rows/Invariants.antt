use Rattle.augment.specs.Divided.{IsLiftedUpTo}
use Rattle.augment.proofs.modulo.lifted_rows.Given as goal

abbrev pub invariant-loop-i : goal.invariant-loop-i
invariant-loop-i g l = IsLiftedUpTo g.F.Field.scalars l.quotient l.kernel l.i l.above

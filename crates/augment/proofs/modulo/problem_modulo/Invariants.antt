use Rattle.augment.proofs.ProblemsModulo.{IsModuloUpTo}
use Rattle.augment.proofs.modulo.problem_modulo.Given as goal

abbrev pub invariant-loop-line : goal.invariant-loop-line
invariant-loop-line g l = IsModuloUpTo g.F.Field.scalars l.quotient l.problem l.line l.modulo

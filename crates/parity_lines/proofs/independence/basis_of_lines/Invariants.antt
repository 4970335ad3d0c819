use Rattle.parity_lines.specs.FirstLines.{HasFirstLines}
use Rattle.parity_lines.proofs.independence.basis_of_lines.Given as goal

abbrev pub invariant-loop-i : goal.invariant-loop-i
invariant-loop-i g l = HasFirstLines g.F.Field.scalars l.problem l.set l.i l.basis

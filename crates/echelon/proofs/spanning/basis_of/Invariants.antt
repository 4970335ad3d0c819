use Rattle.echelon.proofs.Growing.{IsBasisSoFar}
use Rattle.echelon.proofs.spanning.basis_of.Given as goal

abbrev pub invariant-loop-i : goal.invariant-loop-i
invariant-loop-i g l = IsBasisSoFar g.F.Field.scalars g.met.F.Field.lawful l.vectors l.i l.basis

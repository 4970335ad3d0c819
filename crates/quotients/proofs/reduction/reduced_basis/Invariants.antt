use Rattle.quotients.proofs.Reduced.{IsReducedSoFar}
use Rattle.quotients.proofs.reduction.reduced_basis.Given as goal

abbrev pub invariant-loop-position : goal.invariant-loop-position
invariant-loop-position g l = IsReducedSoFar g.F.Field.scalars g.met.F.Field.lawful l.span.width l.span.rows l.position l.basis

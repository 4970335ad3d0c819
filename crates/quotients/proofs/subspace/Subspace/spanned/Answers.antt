use Rattle.quotients.proofs.Kept.{is_kept, has_elements}
use Rattle.quotients.proofs.subspace.Subspace.spanned.Goals as goal

pub invariant_of-result : goal.invariant_of-result
invariant_of-result g c = is_kept g.F.Field.scalars g.met.F.Field.lawful c.args.vectors.now c.in_ok-span.span c.in_ok-basis.basis c.in_ok-span.ensures c.in_ok-basis.ensures

pub returns-clause-spans : goal.returns-clause-spans
returns-clause-spans g c = has_elements g.F.Field.scalars g.met.F.Field.lawful c.args.vectors.now c.in_ok-span.span c.in_ok-basis.basis c.in_ok-span.ensures c.in_ok-basis.ensures c.args.dimension c.requires

use Rattle.parity_lines.proofs.Relations.{lead_inverse_found}
use Rattle.parity_lines.proofs.independence.lead_inverse.Goals as goal

pub returns-in-Some : goal.returns-in-Some
returns-in-Some g c =
    lead_inverse_found g.F.Field.scalars g.F.Field.number c.args.v.now c.loop-x.x-index c.x-item.result c.in-Some.inverse c.loop-x-test.true c.x-item.is c.in-Some.ensures.some c.loop-x.invariant

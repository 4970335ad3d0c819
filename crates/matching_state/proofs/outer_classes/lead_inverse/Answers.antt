use Rattle.matching_state.proofs.TailSteps.{lead_inverse_read}
use Rattle.matching_state.proofs.outer_classes.lead_inverse.Goals as goal

pub returns-in-Some-inverse : goal.returns-in-Some-inverse
returns-in-Some-inverse g c =
    let n = g.F.Field.number in
    let lead = c.in-Some.ensures in
    lead_inverse_read g.F.Field.scalars c.args.row.now c.args.from c.in-Some.lead (n c.get.result) (n c.in-Some-inverse.inverse) lead.0 lead.1 lead.3 c.get.ensures c.in-Some-inverse.ensures.some

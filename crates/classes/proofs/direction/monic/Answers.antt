use Rattle.std.proofs.Common.{arith}
use Rattle.field_core.proofs.Values.{numbers_of_values}
use Rattle.parity_lines.proofs.Relations.{monic_multiple}
use Rattle.matching_state.proofs.Monics.{lead_inverse_of}
use Rattle.classes.proofs.SpreadParts.{entry_is}
use Rattle.classes.proofs.direction.monic.Goals as goal

pub returns : goal.returns
returns g c =
    let S = g.F.Field.scalars in
    let f = g.F.Field.number in
    let row = c.args.row in
    let leads = rw c.as_slice.ensures.value at c.in-Some.ensures in
    let w = leads.within in
    let l = c.as_slice-2.ensures.len in
    let x = c.index-as_slice-lead.result in
    let seen = entry_is f c.as_slice-2.result.now c.in-Some.lead x c.index-as_slice-lead.is (omega arith) in
    let entry = rw c.as_slice-2.ensures.value at seen in
    monic_multiple S g.met.F.Field.lawful row c.multiply.new.self (f c.in-Some-inverse.inverse)
    (rw c.as_slice.ensures.value at (numbers_of_values S f g.met.F.Field.is_scalar c.as_slice.result.now))
    (g.met.F.Field.is_scalar c.in-Some-inverse.inverse)
    (lead_inverse_of S row c.in-Some.lead (f x) (f c.in-Some-inverse.inverse) leads entry c.in-Some-inverse.ensures.some) c.multiply.ensures

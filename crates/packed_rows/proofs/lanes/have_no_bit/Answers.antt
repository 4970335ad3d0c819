use Rattle.packed_rows.proofs.Elements.{zero_by_elements}
use Rattle.packed_rows.proofs.lanes.have_no_bit.Goals as goal

pub returns : goal.returns
returns c = zero_by_elements c.args.words.now c.are_zero.result (λ k. (c.type_inv.words k).fits) c.are_zero.ensures

use Rattle.packed_rows.proofs.Elements.{zero_vector_by_elements}
use Rattle.packed_rows.proofs.packed.PackedF2.is_zero.Goals as goal

pub returns : goal.returns
returns c =
    zero_vector_by_elements c.self.inside.words.items c.deref.result.now c.self.inside.count c.args.self.now c.have_no_bit.result
    c.self.invariant c.self.view_is c.deref.ensures.value c.have_no_bit.ensures

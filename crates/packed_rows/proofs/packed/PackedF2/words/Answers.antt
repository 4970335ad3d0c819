use Rattle.packed_rows.proofs.Elements.{lent_packed}
use Rattle.packed_rows.proofs.packed.PackedF2.words.Goals as goal

pub returns : goal.returns
returns c =
    lent_packed c.self.inside.words.items c.deref.result.now c.self.inside.count c.args.self.now c.self.invariant c.self.view_is
    c.deref.ensures.value

use Rattle.kept_rows.proofs.Cases.{packed_view, packed_kept, zero_kept}
use Rattle.kept_rows.proofs.kept.KeptRow.is_zero.Goals as goal

pub returns-in-Packed : goal.returns-in-Packed
returns-in-Packed g c =
    let S = g.F.Field.scalars in
    let order = g.F.Field.ORDER in
    let entries = c.self.inside.entries in
    let u = c.args.self.now in
    let bits = c.in-Packed.bits in
    zero_kept S g.met.F.Field.lawful bits u c.is_zero-in-Packed.result
    (packed_kept S order entries u c.self.view_is c.self.invariant bits c.in-Packed.is).1
    (packed_view S order entries u c.self.view_is c.self.invariant bits c.in-Packed.is) c.is_zero-in-Packed.ensures

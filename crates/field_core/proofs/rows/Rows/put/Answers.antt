use Rattle.std.proofs.Common.{◌≡◌, length, map, sym, ap, ◌∙◌}
use Rattle.std.proofs.lemmas.List.{length-map}
use Rattle.field_core.specs.Matrix.{Matrix}
use Rattle.field_core.proofs.Values.{put_values}
use Rattle.field_core.proofs.rows.Rows.put.Goals as goal

pub invariant_of-self : goal.invariant_of-self
invariant_of-self g c =
    let long : length c.copy_from_slice.new.self ≡ c.self.inside.width =
    ap length c.copy_from_slice.ensures.after ∙ c.requires.long ∙ sym (ap (λ (m : Matrix). m.width) c.self.view_is) in
    let same : length (map g.F.Field.number c.copy_from_slice.new.self) ≡ length c.index_mut.result.now =
    length-map c.copy_from_slice.new.self g.F.Field.number ∙ c.copy_from_slice.ensures.len
    ∙ sym (length-map c.as_mut_slice.result.now g.F.Field.number) ∙ ap length c.as_mut_slice.ensures.value in
    put_values g.F.Field.scalars g.F.Field.number g.met.F.Field.is_scalar c.self.inside.width c.args.i c.self.inside.rows.items c.index_mut.result.now
    c.copy_from_slice.new.self c.self.invariant long c.as_mut_slice.ensures.whole same

use Rattle.std.proofs.Common.{IsTrue, map, sym, ap, ◌∙◌, subst}
use Rattle.field_core.specs.Matrix.{Matrix}
use Rattle.field_core.proofs.Values.{vector_of_values}
use Rattle.linear_algebra.specs.Spans.{InSpan}
use Rattle.linear_algebra.specs.Vectors.{zero_vector}
use Rattle.echelon.specs.Eliminations.{reduced}
use Rattle.echelon.proofs.Residue.{zero_exactly_in_span}
use Rattle.echelon.proofs.basis.Echelon.contains_with.Goals as goal

pub returns : goal.returns
returns g c =
    let S = g.F.Field.scalars in
    let f = g.F.Field.number in
    let ss = c.self.inside.steps.items in
    let d = c.self.inside.dimension in
    let v = c.args.v.now in
    let width = ap (λ (m : Matrix). m.width) c.self.view_is in
    let rest = c.reduce.ensures ∙ ap (λ ts. reduced S ts (map f c.copy_from_slice.new.self)) c.deref.ensures.value ∙ ap (λ xs. reduced S ss (map f xs)) c.copy_from_slice.ensures.after in
    let long = c.reduce.auto.v ∙ c.copy_from_slice.auto.self ∙ c.requires.room ∙ sym width in
    let told = zero_exactly_in_span S g.met.F.Field.lawful d ss c.self.invariant (map f v) (vector_of_values S f g.met.F.Field.is_scalar v d (c.requires.long ∙ sym width)) in
    subst (λ (m : Matrix). (IsTrue c.is_zero.result → InSpan S m.width m.rows (map f v)) × (InSpan S m.width m.rows (map f v) → IsTrue c.is_zero.result)) c.self.view_is (
      λ h. told.0 (sym rest ∙ c.is_zero.ensures.0 h ∙ ap (zero_vector S) long),
      λ h. c.is_zero.ensures.1 (rest ∙ told.1 h ∙ sym (ap (zero_vector S) long)),
    )

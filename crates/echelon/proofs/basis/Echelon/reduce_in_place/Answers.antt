use Rattle.std.proofs.Common.{map, sym, ap, ◌∙◌, subst}
use Rattle.field_core.specs.Matrix.{Matrix}
use Rattle.field_core.proofs.Values.{vector_of_values}
use Rattle.echelon.specs.Residues.{IsResidue}
use Rattle.echelon.specs.Eliminations.{reduced, taken}
use Rattle.echelon.proofs.Residue.{reduced_is_residue}
use Rattle.echelon.proofs.basis.Echelon.reduce_in_place.Goals as goal

pub returns : goal.returns
returns g c =
    let S = g.F.Field.scalars in
    let f = g.F.Field.number in
    let ss = c.self.inside.steps.items in
    let d = c.self.inside.dimension in
    let v = c.args.v.now in
    let long = c.requires ∙ sym (ap (λ (m : Matrix). m.width) c.self.view_is) in
    subst (λ (m : Matrix). IsResidue S m.width m.rows (map f v) (map f c.reduce.new.v)) c.self.view_is
    (subst (IsResidue S d (taken ss) (map f v)) (sym (c.reduce.ensures ∙ ap (λ ts. reduced S ts (map f v)) c.deref.ensures.value))
    (reduced_is_residue S g.met.F.Field.lawful d ss c.self.invariant (map f v) (vector_of_values S f g.met.F.Field.is_scalar v d long)))

use Rattle.std.proofs.Common.{◌≡◌, ◌++◌, ◌∷◌, [], map, length, ap, sym, ◌∙◌, subst}
use Rattle.field_core.specs.Matrix.{Matrix}
use Rattle.linear_algebra.specs.Spans.{InSpan}
use Rattle.echelon.specs.Found.{Finds}
use Rattle.echelon.specs.Eliminations.{taken}
use Rattle.echelon.proofs.Insertion.{step_taken, still_outside, matrix_more}
use Rattle.echelon.proofs.basis.Echelon.insert.Goals as goal

pub invariant_of-self-in-Outside : goal.invariant_of-self-in-Outside
invariant_of-self-in-Outside g c =
    let S = g.F.Field.scalars in
    let f = g.F.Field.number in
    let v = c.args.v.now in
    let found = subst (Finds S f (length v) c.deref.result.now (map f v)) c.in-Outside.is c.in_ok-coefficients.ensures in
    step_taken S c.self.inside.dimension (length v) c.self.inside.steps.items c.deref.result.now c.push.new.self.items c.in_ok-step-in-Outside.step
    (c.requires ∙ sym (ap (λ (m : Matrix). m.width) c.self.view_is)) c.deref.ensures.value c.in_ok-push-in-Outside.ensures.items
    (found.next c.in_ok-step-in-Outside.step c.in_ok-step-in-Outside.ensures)

pub returns-in_ok-push-in-Outside-clause-ok : goal.returns-in_ok-push-in-Outside-clause-ok
returns-in_ok-push-in-Outside-clause-ok g c =
    let S = g.F.Field.scalars in
    let f = g.F.Field.number in
    let v = c.args.v.now in
    let d = c.self.inside.dimension in
    let ss = c.self.inside.steps.items in
    let step = c.in_ok-step-in-Outside.step in
    let found = subst (Finds S f (length v) c.deref.result.now (map f v)) c.in-Outside.is c.in_ok-coefficients.ensures in (
      subst (λ (m : Matrix). InSpan S m.width m.rows (map f v) → ⊥) c.self.view_is
          (still_outside S d (length v) ss c.deref.result.now (map f v) (c.requires ∙ sym (ap (λ (m : Matrix). m.width) c.self.view_is)) c.deref.ensures.value found.outside),
      subst (λ (m : Matrix). (let w : Matrix = record { width = d; rows = taken c.push.new.self.items } in w) ≡ record { width = m.width; rows = m.rows ++ map f v ∷ [] }) c.self.view_is
          (matrix_more d ss c.push.new.self.items step (map f v) c.in_ok-push-in-Outside.ensures.items c.in_ok-step-in-Outside.ensures.vector),
    )

use Rattle.std.proofs.Common.{sym, ap, ◌∙◌, subst}
use Rattle.field_core.proofs.Values.{vector_of_values}
use Rattle.linear_algebra.specs.Vectors.{IsVector}
use Rattle.frames.specs.Frames.{Framed}
use Rattle.frames.proofs.Parts.{framing}
use Rattle.frames.proofs.Steps.{pushed_frame}
use Rattle.frames.proofs.frame.Frame.push.Goals as goal

pub invariant_of-self-2 : goal.invariant_of-self-2
invariant_of-self-2 g c =
    let S = g.F.Field.scalars in
    let basis = c.self.inside.basis in
    pushed_frame S (framing basis c.self.inside.lists.items) c.push.new.self.items c.in_ok-list.list c.self.invariant
    (subst (IsVector S basis.width) (sym c.in_ok-list.ensures)
    (vector_of_values S g.F.Field.number g.met.F.Field.is_scalar c.args.coordinates.now basis.width (c.requires ∙ sym (ap (λ (f : Framed). f.width) c.self.view_is))))
    c.in_ok-push.ensures.items

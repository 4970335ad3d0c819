use Rattle.std.proofs.Common.{◌<◌, length, refl, sym, ap, ◌∙◌, subst}
use Rattle.frames.specs.Frames.{Framed, IsFrame, kept_at}
use Rattle.frames.proofs.Parts.{framing, item_is}
use Rattle.frames.proofs.Steps.{kept_length}
use Rattle.frames.proofs.frame.Frame.list.Goals as goal

pub returns : goal.returns
returns g c =
    let l = subst (λ (f : Framed). c.args.j < length f.kept) (sym c.self.view_is) c.requires in
    let value = item_is g.F.Field.scalars g.met.F.Field.lawful c.self.inside.basis c.self.inside.lists.items c.self.invariant c.args.j c.index.result.now c.index.result.now refl c.index.ensures l in
    record {
      value = value ∙ ap (λ (f : Framed). kept_at f c.args.j) c.self.view_is;
      long = ap length value ∙ kept_length g.F.Field.scalars (framing c.self.inside.basis c.self.inside.lists.items) c.args.j c.self.invariant l ∙ ap (λ (f : Framed). f.width) c.self.view_is;
      frame = subst (IsFrame g.F.Field.scalars) c.self.view_is c.self.invariant;
    }

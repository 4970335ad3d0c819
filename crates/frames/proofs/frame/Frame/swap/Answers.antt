use Rattle.std.proofs.Common.{◌<◌, length, sym, ap, ◌∙◌, subst, map}
use Rattle.std.specs.List.{swap}
use Rattle.std.proofs.lemmas.List.{length-map}
use Rattle.field_core.specs.Matrix.{Matrix}
use Rattle.frames.specs.Frames.{Framed, KeepsVectors}
use Rattle.frames.proofs.Parts.{framing, written, row_place, long_lists, IsSwapped, swapped_parts}
use Rattle.frames.proofs.frame.Frame.swap.Goals as goal
use Rattle.frames.proofs.frame.Frame.swap.Goals.{After-swap_columns}
use Rattle.frames.proofs.frame.Frame.swap.Given.{Over}

pub swap-requires-clause-first : goal.swap-requires-clause-first
swap-requires-clause-first g c =
    row_place g.F.Field.scalars g.met.F.Field.lawful c.self.inside.basis c.self.inside.lists.items c.self.invariant c.args.i
    (subst (λ (f : Framed). c.args.i < f.width) (sym c.self.view_is) c.requires.first)

pub swap-requires-clause-second : goal.swap-requires-clause-second
swap-requires-clause-second g c =
    row_place g.F.Field.scalars g.met.F.Field.lawful c.self.inside.basis c.self.inside.lists.items c.self.invariant c.args.j
    (subst (λ (f : Framed). c.args.j < f.width) (sym c.self.view_is) c.requires.second)

pub swap_columns-requires-clause-first : goal.swap_columns-requires-clause-first
swap_columns-requires-clause-first g c =
    long_lists g.F.Field.scalars g.met.F.Field.lawful c.self.inside.basis c.self.inside.lists.items c.self.invariant c.deref_mut.result.now c.args.i
    c.deref_mut.ensures.value (subst (λ (f : Framed). c.args.i < f.width) (sym c.self.view_is) c.requires.first)

pub swap_columns-requires-clause-second : goal.swap_columns-requires-clause-second
swap_columns-requires-clause-second g c =
    long_lists g.F.Field.scalars g.met.F.Field.lawful c.self.inside.basis c.self.inside.lists.items c.self.invariant c.deref_mut.result.now c.args.j
    c.deref_mut.ensures.value (subst (λ (f : Framed). c.args.j < f.width) (sym c.self.view_is) c.requires.second)

facts : (g : Over) (c : After-swap_columns g) →
    IsSwapped g.F.Field.scalars g.met.F.Field.lawful c.self.inside.basis c.self.inside.lists.items c.self.invariant c.args.i c.args.j
    (framing c.swap.new.self (written c.self.inside.lists.len c.self.inside.lists.items c.swap_columns.new.lists))
facts g c =
    swapped_parts g.F.Field.scalars g.met.F.Field.lawful c.self.inside.basis c.self.inside.lists.items c.self.invariant c.args.i c.args.j c.self.inside.lists.len
    c.swap.new.self c.deref_mut.result.now c.swap_columns.new.lists
    (subst (λ (f : Framed). c.args.i < f.width) (sym c.self.view_is) c.requires.first) (subst (λ (f : Framed). c.args.j < f.width) (sym c.self.view_is) c.requires.second)
    c.swap.ensures c.deref_mut.ensures.value c.swap_columns.ensures
    (ap length c.swap_columns.ensures ∙ length-map c.deref_mut.result.now (λ list. swap list c.args.i c.args.j) ∙ ap length c.deref_mut.ensures.value)
    c.self.inside.lists.ok.0

pub invariant_of-self : goal.invariant_of-self
invariant_of-self g c = (facts g (goal.at.invariant_of-self g c).After-swap_columns).is_frame

pub returns-clause-basis : goal.returns-clause-basis
returns-clause-basis g c =
    ap (λ (m : Matrix). m.rows) c.swap.ensures ∙ ap (λ (f : Framed). swap f.basis c.args.i c.args.j) c.self.view_is

pub returns-clause-kept : goal.returns-clause-kept
returns-clause-kept g c = (facts g (goal.at.returns-clause-kept g c).After-swap_columns).kept ∙ ap (λ (f : Framed). map (λ list. swap list c.args.i c.args.j) f.kept) c.self.view_is

pub returns-clause-keeps : goal.returns-clause-keeps
returns-clause-keeps g c =
    subst (λ (f : Framed). KeepsVectors g.F.Field.scalars f (framing c.swap.new.self (written c.self.inside.lists.len c.self.inside.lists.items c.swap_columns.new.lists)))
    c.self.view_is (facts g (goal.at.returns-clause-keeps g c).After-swap_columns).keeps

pub returns-clause-frame : goal.returns-clause-frame
returns-clause-frame g c = (facts g (goal.at.returns-clause-frame g c).After-swap_columns).is_frame

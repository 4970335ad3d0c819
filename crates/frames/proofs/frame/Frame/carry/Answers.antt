use Rattle.std.proofs.Common.{◌<◌, sym, ap, ◌∙◌, subst, map}
use Rattle.field_core.specs.Matrix.{Matrix}
use Rattle.packed_rows.specs.Carried.{carried}
use Rattle.frames.specs.Frames.{Framed, KeepsVectors}
use Rattle.frames.proofs.Parts.{framing, written, row_place, long_lists}
use Rattle.frames.proofs.Carries.{IsCarried, carried_parts}
use Rattle.frames.proofs.frame.Frame.carry.Goals as goal
use Rattle.frames.proofs.frame.Frame.carry.Goals.{After-carry_columns}
use Rattle.frames.proofs.frame.Frame.carry.Given.{Over}

pub carry_row-requires-clause-first : goal.carry_row-requires-clause-first
carry_row-requires-clause-first g c =
    row_place g.F.Field.scalars g.met.F.Field.lawful c.self.inside.basis c.self.inside.lists.items c.self.invariant c.args.from
    (subst (λ (f : Framed). c.args.from < f.width) (sym c.self.view_is) c.requires.first)

pub carry_row-requires-clause-second : goal.carry_row-requires-clause-second
carry_row-requires-clause-second g c =
    row_place g.F.Field.scalars g.met.F.Field.lawful c.self.inside.basis c.self.inside.lists.items c.self.invariant c.args.to
    (subst (λ (f : Framed). c.args.to < f.width) (sym c.self.view_is) c.requires.second)

pub carry_columns-requires-clause-first : goal.carry_columns-requires-clause-first
carry_columns-requires-clause-first g c =
    long_lists g.F.Field.scalars g.met.F.Field.lawful c.self.inside.basis c.self.inside.lists.items c.self.invariant c.deref_mut.result.now c.args.from
    c.deref_mut.ensures.value (subst (λ (f : Framed). c.args.from < f.width) (sym c.self.view_is) c.requires.first)

pub carry_columns-requires-clause-second : goal.carry_columns-requires-clause-second
carry_columns-requires-clause-second g c =
    long_lists g.F.Field.scalars g.met.F.Field.lawful c.self.inside.basis c.self.inside.lists.items c.self.invariant c.deref_mut.result.now c.args.to
    c.deref_mut.ensures.value (subst (λ (f : Framed). c.args.to < f.width) (sym c.self.view_is) c.requires.second)

facts : (g : Over) (c : After-carry_columns g) →
    IsCarried g.F.Field.scalars g.met.F.Field.lawful c.self.inside.basis c.self.inside.lists.items c.self.invariant c.args.from c.args.to
    (framing c.carry_row.new.rows (written c.self.inside.lists.len c.self.inside.lists.items c.carry_columns.new.lists))
facts g c =
    carried_parts g.F.Field.scalars g.met.F.Field.lawful c.self.inside.basis c.self.inside.lists.items c.self.invariant c.args.from c.args.to
    c.self.inside.lists.len c.carry_row.new.rows c.deref_mut.result.now c.carry_columns.new.lists
    (subst (λ (f : Framed). c.args.from < f.width) (sym c.self.view_is) c.requires.first)
    (subst (λ (f : Framed). c.args.to < f.width) (sym c.self.view_is) c.requires.second)
    c.carry_row.ensures c.deref_mut.ensures.value c.carry_columns.ensures c.self.inside.lists.ok.0

pub invariant_of-self : goal.invariant_of-self
invariant_of-self g c = (facts g (goal.at.invariant_of-self g c).After-carry_columns).is_frame

pub returns-clause-basis : goal.returns-clause-basis
returns-clause-basis g c =
    ap (λ (m : Matrix). m.rows) c.carry_row.ensures ∙ ap (λ (f : Framed). carried f.basis c.args.from c.args.to) c.self.view_is

pub returns-clause-kept : goal.returns-clause-kept
returns-clause-kept g c =
    (facts g (goal.at.returns-clause-kept g c).After-carry_columns).kept
    ∙ ap (λ (f : Framed). map (λ list. carried list c.args.from c.args.to) f.kept) c.self.view_is

pub returns-clause-keeps : goal.returns-clause-keeps
returns-clause-keeps g c =
    subst (λ (f : Framed). KeepsVectors g.F.Field.scalars f (framing c.carry_row.new.rows (written c.self.inside.lists.len c.self.inside.lists.items c.carry_columns.new.lists)))
    c.self.view_is (facts g (goal.at.returns-clause-keeps g c).After-carry_columns).keeps

pub returns-clause-frame : goal.returns-clause-frame
returns-clause-frame g c = (facts g (goal.at.returns-clause-frame g c).After-carry_columns).is_frame

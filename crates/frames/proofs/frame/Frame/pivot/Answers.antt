use Rattle.std.proofs.Common.{◌≢◌, ◌<◌, ℕ, [], length, map, get_or, set, refl, sym, ap, ◌∙◌, subst}
use Rattle.field_core.specs.Matrix.{Matrix}
use Rattle.linear_algebra.specs.Spans.{Combines}
use Rattle.coordinates.specs.Bases.{IsPivoted}
use Rattle.frames.specs.Frames.{Framed, KeepsVectors, kept_at}
use Rattle.frames.proofs.Parts.{framing, written, item_is, item_vector, incoming_long, shown_vector, shown_factor, row_place, held_place, vector_lists, ArePivots, pivoted_parts}
use Rattle.frames.proofs.frame.Frame.pivot.Goals as goal
use Rattle.frames.proofs.frame.Frame.pivot.Goals.{After-pivot_all}
use Rattle.frames.proofs.frame.Frame.pivot.Given.{Over}

pub get-requires : goal.get-requires
get-requires g c =
    let S = g.F.Field.scalars in
    let L = g.met.F.Field.lawful in
    let basis = c.self.inside.basis in
    let items = c.self.inside.lists.items in
    let l = subst (λ (f : Framed). c.args.j < length f.kept) (sym c.self.view_is) c.requires.list in
    held_place S L basis items c.self.invariant c.args.i c.index.result.now
    (item_vector S L basis items c.self.invariant c.args.j c.index.result.now (item_is S L basis items c.self.invariant c.args.j c.index.result.now c.index.result.now refl c.index.ensures l) l)
    (subst (λ (f : Framed). c.args.i < f.width) (sym c.self.view_is) c.requires.place)

pub put-requires-clause-within : goal.put-requires-clause-within
put-requires-clause-within g c =
    row_place g.F.Field.scalars g.met.F.Field.lawful c.self.inside.basis c.self.inside.lists.items c.self.invariant c.args.i
    (subst (λ (f : Framed). c.args.i < f.width) (sym c.self.view_is) c.requires.place)

pub put-requires-clause-long : goal.put-requires-clause-long
put-requires-clause-long g c =
    incoming_long g.F.Field.scalars g.met.F.Field.lawful c.self.inside.basis c.self.inside.lists.items c.self.invariant g.F.Field.number c.args.j c.args.v.now
    (subst (λ (f : Framed). Combines g.F.Field.scalars f.width f.basis (kept_at f c.args.j) (map g.F.Field.number c.args.v.now)) (sym c.self.view_is) c.requires.combined)

pub pivot_all-requires-clause-list : goal.pivot_all-requires-clause-list
pivot_all-requires-clause-list g c =
    subst (λ xs. c.args.j < length xs) (sym c.deref_mut.ensures.value) (subst (λ (f : Framed). c.args.j < length f.kept) (sym c.self.view_is) c.requires.list)

pub pivot_all-requires-clause-lists : goal.pivot_all-requires-clause-lists
pivot_all-requires-clause-lists g c =
    vector_lists g.F.Field.scalars g.met.F.Field.lawful c.self.inside.basis c.self.inside.lists.items c.self.invariant c.deref_mut.result.now c.args.j
    c.deref_mut.ensures.value (subst (λ (f : Framed). c.args.j < length f.kept) (sym c.self.view_is) c.requires.list)

pub pivot_all-requires-clause-place : goal.pivot_all-requires-clause-place
pivot_all-requires-clause-place g c =
    let S = g.F.Field.scalars in
    let L = g.met.F.Field.lawful in
    held_place S L c.self.inside.basis c.self.inside.lists.items c.self.invariant c.args.i (get_or c.deref_mut.result.now c.args.j [])
    (shown_vector S L c.self.inside.basis c.self.inside.lists.items c.self.invariant c.deref_mut.result.now c.args.j c.deref_mut.ensures.value
    (subst (λ (f : Framed). c.args.j < length f.kept) (sym c.self.view_is) c.requires.list))
    (subst (λ (f : Framed). c.args.i < f.width) (sym c.self.view_is) c.requires.place)

pub pivot_all-requires-clause-factor : goal.pivot_all-requires-clause-factor
pivot_all-requires-clause-factor g c =
    let S = g.F.Field.scalars in
    let L = g.met.F.Field.lawful in
    let items = c.self.inside.lists.items in
    let l = subst (λ (f : Framed). c.args.j < length f.kept) (sym c.self.view_is) c.requires.list in
    shown_factor S L c.self.inside.basis items c.self.invariant c.deref_mut.result.now c.args.j c.args.i (g.F.Field.number c.get.result) (g.F.Field.number c.in-Some.factor)
    c.index.result.now c.deref_mut.ensures.value
    (item_is S L c.self.inside.basis items c.self.invariant c.args.j c.index.result.now c.index.result.now refl c.index.ensures l) c.get.ensures c.in-Some.ensures.some

facts : (g : Over) (c : After-pivot_all g) →
    ArePivots g.F.Field.scalars g.met.F.Field.lawful c.self.inside.basis c.self.inside.lists.items c.self.invariant c.args.i c.args.j
    (framing c.put.new.self (written c.self.inside.lists.len c.self.inside.lists.items c.pivot_all.new.lists))
facts g c =
    pivoted_parts g.F.Field.scalars g.met.F.Field.lawful c.self.inside.basis c.self.inside.lists.items c.self.invariant c.args.i c.args.j c.self.inside.lists.len
    c.put.new.self c.deref_mut.result.now c.pivot_all.new.lists (map g.F.Field.number c.args.v.now)
    (subst (λ (f : Framed). c.args.i < f.width) (sym c.self.view_is) c.requires.place)
    (subst (λ (f : Framed). c.args.j < length f.kept) (sym c.self.view_is) c.requires.list)
    (subst (λ (f : Framed). Combines g.F.Field.scalars f.width f.basis (kept_at f c.args.j) (map g.F.Field.number c.args.v.now)) (sym c.self.view_is) c.requires.combined)
    c.put.ensures c.deref_mut.ensures.value c.pivot_all.ensures.many c.self.inside.lists.ok.0 c.pivot_all.ensures.each
    (subst (λ (f : Framed). get_or (kept_at f c.args.j) c.args.i 0 ≢ g.F.Field.scalars.zero) (sym c.self.view_is) c.requires.not_zero)

pub invariant_of-self : goal.invariant_of-self
invariant_of-self g c = (facts g (goal.at.invariant_of-self g c).After-pivot_all).is_frame

pub returns-clause-basis : goal.returns-clause-basis
returns-clause-basis g c =
    ap (λ (m : Matrix). m.rows) c.put.ensures ∙ ap (λ (f : Framed). set f.basis c.args.i (map g.F.Field.number c.args.v.now)) c.self.view_is

pub returns-clause-frame : goal.returns-clause-frame
returns-clause-frame g c = (facts g (goal.at.returns-clause-frame g c).After-pivot_all).is_frame

pub returns-clause-keeps : goal.returns-clause-keeps
returns-clause-keeps g c =
    subst (λ (f : Framed). KeepsVectors g.F.Field.scalars f (framing c.put.new.self (written c.self.inside.lists.len c.self.inside.lists.items c.pivot_all.new.lists)))
    c.self.view_is (facts g (goal.at.returns-clause-keeps g c).After-pivot_all).keeps

pub returns-clause-pivoted : goal.returns-clause-pivoted
returns-clause-pivoted g c =
    let after = framing c.put.new.self (written c.self.inside.lists.len c.self.inside.lists.items c.pivot_all.new.lists) in
    subst (λ (f : Framed). (t : ℕ) → t < length f.kept → IsPivoted g.F.Field.scalars c.args.i (kept_at f c.args.j) (kept_at f t) (kept_at after t))
    c.self.view_is (facts g (goal.at.returns-clause-pivoted g c).After-pivot_all).pivoted

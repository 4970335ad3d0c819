use Rattle.std.proofs.Common.{◌≡◌, ℕ, List, Bool, Option, [], length, get_or, refl, ap, ◌∙◌, subst, arith, rules}
use Rattle.classes.proofs.TableLaws.{AreNextRows, row_long}
use Rattle.classes.proofs.TableSteps.{table_up_to}
use Rattle.classes.specs.Tables.{IsSquare, Separators}
use Rattle.classes.proofs.table.Table.with_member.Goals as goal

-- what a table holds, where it is seen as t
rows_of : (v t : Separators) → v ≡ t → (rows : List (List (Option ℕ))) → rows ≡ v.rows → rows ≡ t.rows
rows_of v t e rows h = h ∙ ap (λ (s : Separators). s.rows) e

live_of : (v t : Separators) → v ≡ t → (live : List Bool) → live ≡ v.live → live ≡ t.live
live_of v t e live h = h ∙ ap (λ (s : Separators). s.live) e

pub with_member-requires-clause-long : goal.with_member-requires-clause-long
with_member-requires-clause-long g c =
    let L = g.met.F.Field.lawful in
    let t = c.args.self.now in
    let row = row_long t c.deref-row-items.result.now c.row-item.result c.loop-line.line (subst IsSquare c.self.view_is c.self.invariant)
    (rows_of _ t c.self.view_is c.deref-row-items.result.now c.deref-row-items.ensures.value) c.row-item.is (omega arith) in
    let lines = (c.requires.table L).lives.long in
    let directions = (c.requires.directions L).long in
    omega arith

pub with_member-requires-clause-within : goal.with_member-requires-clause-within
with_member-requires-clause-within g c =
    let L = g.met.F.Field.lawful in
    let t = c.args.self.now in
    let square = subst IsSquare c.self.view_is c.self.invariant in
    let rows = ap length (rows_of _ t c.self.view_is c.deref-row-items.result.now c.deref-row-items.ensures.value) in
    let long = square.long in
    let lines = (c.requires.table L).lives.long in
    let directions = (c.requires.directions L).long in
    omega arith

pub returns : goal.returns
returns g c L =
    let S = g.F.Field.scalars in
    let f = c.args.family.now in
    let t = c.args.self.now in
    let m = c.args.member in
    let after : Separators = record { live = c.in_ok-live.live.items; rows = c.loop-line.rows.items } in
    let square = subst IsSquare c.self.view_is c.self.invariant in
    let copied : c.in_ok-live.live.items ≡ c.self.inside.live.items = search rules in
    let rows = ap length (rows_of _ t c.self.view_is c.deref-row-items.result.now c.deref-row-items.ensures.value) in
    table_up_to S L f.problem (rw c.problem.ensures at c.len-lines.ensures.problem) (get_or f.sets m [])
    (c.len-members.ensures.family.independent m [] c.requires.member) c.args.directions.now (c.requires.directions L) t after square
    (live_of _ t c.self.view_is c.in_ok-live.live.items copied) f.sets m c.requires.member refl (c.requires.table L)
    (subst (λ k. AreNextRows c.args.directions.now m t.rows k c.loop-line.rows.items) (omega arith) c.loop-line.invariant)

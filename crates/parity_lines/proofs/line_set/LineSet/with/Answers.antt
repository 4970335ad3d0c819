use Rattle.std.proofs.Common.{rules, ◌≡◌, sym, subst, ap, ◌∙◌}
use Rattle.std.specs.List.{insert}
use Rattle.std.specs.List.Sorted.{IsStrictlyIncreasing}
use Rattle.parity_lines.proofs.LineSets.{IsWith, with_found, with_missed}
use Rattle.parity_lines.proofs.line_set.LineSet.with.Goals as goal
use Rattle.parity_lines.proofs.line_set.LineSet.with.Goals.{in-Ok, in-Err+in_ok-insert-in-Err}

with : (c : goal.Joined-binary_search) → IsWith c.args.self.now c.args.line c.match-binary_search.lines.items
with c =
    let x = c.args.line in
    let copied : c.in_ok-lines.lines.items ≡ c.self.inside.lines.items = search rules in
    let e : c.deref-2.result.now ≡ c.args.self.now = c.deref-2.ensures.value ∙ copied ∙ c.self.view_is in
    let h : IsStrictlyIncreasing c.args.self.now = subst (λ t. IsStrictlyIncreasing t) c.self.view_is c.self.invariant in
    elim c.match-binary_search.branch as (λ _. IsWith c.args.self.now x c.match-binary_search.lines.items) [
      | in-Ok w ↦ subst (λ ys. IsWith c.args.self.now x ys) (c.deref-2.ensures.value ∙ ap (λ v. v.items) (sym w.lines-is)) (with_found c.args.self.now c.deref-2.result.now x w.in-Ok.field-0 h e w.in-Ok.ensures.position)
      | in-Err+in_ok-insert-in-Err w ↦ subst (λ ys. IsWith c.args.self.now x ys) (ap (λ v. insert v w.in-Err.place x) c.deref-2.ensures.value ∙ sym w.in_ok-insert-in-Err.ensures.items ∙ ap (λ v. v.items) (sym w.lines-is)) (with_missed c.args.self.now c.deref-2.result.now x w.in-Err.place h e w.in-Err.ensures.position)
    ]

pub invariant_of-result : goal.invariant_of-result
invariant_of-result c = (with c).increasing

pub returns : goal.returns
returns c = ((with c).increasing, (with c).lines)

use Rattle.std.proofs.Common.{rules, ◌≡◌, not, eqb, sym, subst}
use Rattle.std.specs.List.{filter}
use Rattle.parity_lines.proofs.LineSets.{IsWithout, without_is}
use Rattle.parity_lines.proofs.line_set.LineSet.without.Goals as goal

without : (c : goal.In_ok-lines) → IsWithout c.args.self.now c.args.line c.in_ok-lines.lines.items
without c =
    let e : c.in_ok-lines.lines.items ≡ filter (λ y. not (eqb y c.args.line)) c.self.inside.lines.items = search rules in
    subst (λ xs. IsWithout xs c.args.line c.in_ok-lines.lines.items) c.self.view_is (subst (λ ys. IsWithout c.self.inside.lines.items c.args.line ys) (sym e) (without_is c.args.line c.self.inside.lines.items c.self.invariant))

pub invariant_of-result : goal.invariant_of-result
invariant_of-result c = (without c).increasing

pub returns : goal.returns
returns c = ((without c).increasing, (without c).lines)

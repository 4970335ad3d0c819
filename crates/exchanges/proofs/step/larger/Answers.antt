use Rattle.std.proofs.Common.{◌≡◌, ◌⊎◌, ℕ, List, subst}
use Rattle.std.specs.Prelude.{◌↔◌}
use Rattle.std.specs.List.{Contains}
use Rattle.std.proofs.lemmas.Result.{IfOk-weaker}
use Rattle.parity_lines.specs.Problems.{IsProblem}
use Rattle.exchanges.proofs.LargerSets.{larger_by_line}
use Rattle.exchanges.proofs.step.larger.Goals as goal

pub returns : goal.returns
returns g c =
    let S = g.F.Field.scalars in
    let p = c.args.state.now.problem in
    let M = c.args.state.now.set in
    let e = c.args.line in
    let P = subst (IsProblem S) c.problem.ensures c.len-lines.ensures.problem in
    IfOk-weaker c.with.result _ _
    (λ N w. larger_by_line S g.met.F.Field.lawful p P M c.set.ensures.independent e N c.requires.within c.requires.free w.0
    (subst (λ (L : List ℕ). (l : ℕ) → Contains N l ↔ (Contains L l ⊎ (l ≡ e))) c.set.ensures.value w.1))
    c.with.ensures

use Rattle.std.proofs.Common.{ℕ, List, Option, MatchOption, length, map, sym, ◌∙◌, subst}
use Rattle.classes.specs.Sharing.{TellsShared}
use Rattle.classes.specs.declared.transit.Shared.{Shared}
use Rattle.classes.specs.declared.transit.Shared.TheVariants.{First, Second}
use Rattle.classes.proofs.TransitTies.{shared_told}
use Rattle.classes.proofs.transit.shared_by.Goals as goal
use Rattle.classes.proofs.transit.shared_by.Goals.{in-None, in-Some}
use Rattle.exchanges.specs.StepsToward.{TellsMoved}
use Rattle.field_core.proofs.Values.{vector_of_values}
use Rattle.parity_lines.specs.Problems.{IsProblem}

pub returns : goal.returns
returns g c =
    let S = g.F.Field.scalars in
    let p = c.args.state.now.problem in
    let M = c.args.state.now.set in
    let N = c.args.target.now in
    let L = c.move_toward.new.state.set in
    let q = map g.F.Field.number c.args.q.now in
    let a = map g.F.Field.number c.args.first.now in
    let vector = vector_of_values S g.F.Field.number g.met.F.Field.is_scalar in
    let e = c.in_ok-larger.ensures in
    let moved = c.in_ok-moved-in-Settled.moved in
    let Tells : Shared → Type 0 = TellsShared S p (length M) q N a in
    let told = shared_told S g.met.F.Field.lawful p (subst (IsProblem S) c.problem-problem.ensures c.len-lines.ensures.problem) M N L q a
    c.set-set.ensures.independent c.requires.target (vector c.args.q.now p.dimension c.requires.long)
    (vector c.args.first.now p.dimension c.requires.first_long)
    c.requires.missed c.in_ok-keep.keep c.in_ok-basis-in-Settled.basis moved c.move_toward.new.state.problem c.in_ok-found-in-Settled.found
    c.in_ok-keep.ensures e.problem c.in_ok-basis-in-Settled.ensures (c.in_ok-moved-in-Settled.ensures ∙ c.set.ensures.value)
    e.reached (subst (TellsMoved S p c.in_ok-keep.keep.rows N L) c.in-Settled.is e.moved) c.in_ok-found-in-Settled.ensures in
    let Told : Option (List ℕ) → Type 0 = λ found. MatchOption found (Tells (First moved)) (λ _. Tells (Second moved)) in
    elim c.match-found.branch [
      | in-None w ↦ subst Tells (sym w.result-is) (subst Told w.in-None.is told)
      | in-Some w ↦ subst Tells (sym w.result-is) (subst Told w.in-Some.is told)
    ]

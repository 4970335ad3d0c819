use Rattle.std.proofs.Common.{◌≡◌, ◌∙◌, refl, suc, arith, subst}
use Rattle.linear_algebra.specs.Vectors.{AreVectors}
use Rattle.parity_lines.specs.Problems.{IsProblem}
use Rattle.parity_theory.proofs.Nearness.{left_over}
use Rattle.exchanges.proofs.ReachedSets.{exchange_told, nearer_by_exchange, one_more}
use Rattle.exchanges.specs.Exchanges.{by_none}
use Rattle.exchanges.proofs.walk.move_toward.Goals as goal

pub loop-set-init : goal.loop-set-init
loop-set-init g c = record {
  problem = refl;
  reached = by_none;
  kept = record { independent = c.set-set.ensures.independent; as_long = refl; missed = c.requires.missed };
}

pub loop-set-smaller : goal.loop-set-smaller
loop-set-smaller g c =
    let S = g.F.Field.scalars in
    let p = c.args.state.now.problem in
    let T = c.args.target.now in
    let M = c.loop-set.state.set in
    let N = c.step_toward.new.state.set in
    let P = subst (IsProblem S) c.problem-problem.ensures c.len-lines.ensures.problem in
    let e = c.in_ok-step_toward.ensures in
    let h = c.loop-set.invariant in
    let told = exchange_told S p _ c.args.keep.now.rows T M N c.in_ok-step_toward.field-0 c.in-Moved.out c.in-Moved.into h.problem c.in-Moved.is
    e.step e.kept in
    let nearer : suc (left_over N T) ≡ left_over M T = nearer_by_exchange S g.met.F.Field.lawful p P c.args.keep.now.rows T c.requires.within M N
    c.in-Moved.out c.in-Moved.into h.kept.independent told.0.can told.0.swap c.len-aims.ensures.increasing told.1.increasing in
    omega arith

pub loop-set-preserved : goal.loop-set-preserved
loop-set-preserved g c =
    let S = g.F.Field.scalars in
    let p = c.args.state.now.problem in
    let T = c.args.target.now in
    let keep = c.args.keep.now.rows in
    let M = c.loop-set.state.set in
    let N = c.step_toward.new.state.set in
    let P = subst (IsProblem S) c.problem-problem.ensures c.len-lines.ensures.problem in
    let e = c.in_ok-step_toward.ensures in
    let h = c.loop-set.invariant in
    let told = exchange_told S p _ keep T M N c.in_ok-step_toward.field-0 c.in-Moved.out c.in-Moved.into h.problem c.in-Moved.is e.step
    e.kept in
    let r = one_more S g.met.F.Field.lawful p P keep T c.requires.within
    (subst (λ d. AreVectors S d keep) c.requires.width c.len-kept.ensures.vectors) c.args.state.now.set M N c.in-Moved.out c.in-Moved.into
    h.reached h.kept told.0 told.1 in
    record { problem = e.problem ∙ h.problem; reached = r.0; kept = r.1 }

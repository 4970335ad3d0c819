use Rattle.std.proofs.Common.{◌++◌, MatchOption, subst}
use Rattle.linear_algebra.specs.Vectors.{AreVectors}
use Rattle.parity_lines.specs.LineSets.{IsIndependentSet}
use Rattle.parity_lines.specs.Problems.{IsProblem, vectors_at}
use Rattle.exchanges.proofs.ReachedSets.{kept_by_exchange}
use Rattle.exchanges.specs.Exchanges.{IsSettled}
use Rattle.exchanges.specs.Offers.{IsOffer}
use Rattle.exchanges.proofs.step.step_toward.Goals as goal

pub returns-in_ok-swap-in-Some-Exchange-clause-kept : goal.returns-in_ok-swap-in-Some-Exchange-clause-kept
returns-in_ok-swap-in-Some-Exchange-clause-kept g c =
    let S = g.F.Field.scalars in
    let p = c.args.state.now.problem in
    let M = c.args.state.now.set in
    let N = c.swap.new.state.set in
    let T = c.args.target.now in
    let keep = c.args.keep.now.rows in
    let out = c.in-Some-Exchange.out in
    let into = c.in-Some-Exchange.into in
    let P = subst (IsProblem S) c.problem-problem.ensures c.len-lines.ensures.problem in
    let k = subst (λ d. AreVectors S d keep) c.requires.width c.len-kept.ensures.vectors in
    let vs = vectors_at p M ++ keep in
    let can = subst (IsOffer S p vs T M) c.in-Some-Exchange.field-0-is
    (subst (λ found. MatchOption found (IsSettled S p keep T M) (IsOffer S p vs T M)) c.in-Some-Exchange.is c.in_ok-out.ensures) in
    let e = c.in_ok-swap-in-Some-Exchange.ensures in
    let after = subst (λ q. IsIndependentSet S q N) e.problem e.independent in
    kept_by_exchange S g.met.F.Field.lawful p P keep T c.requires.within M N out into c.set-set.ensures.independent can e.ok k c.requires.missed after.line_set

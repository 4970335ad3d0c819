use Rattle.std.proofs.Common.{All, MatchOption, length, subst}
use Rattle.overlap.specs.Candidates.{DoOverlap, HaveOverlap}
use Rattle.overlap.proofs.CandidateTies.{pair_is_overlap, no_pair_no_overlap}
use Rattle.overlap.proofs.search.find.Goals as goal
use Rattle.parity_lines.specs.Problems.{IsProblem}

pub at-requires-clause-overlap : goal.at-requires-clause-overlap
at-requires-clause-overlap g c =
    let S = g.F.Field.scalars in
    let p = c.args.state.now.problem in
    let xs = c.in_ok-exposed.exposed.items in
    let P = subst (IsProblem S) {x = c.problem-problem.result.now} {y = p} c.problem-problem.ensures c.len-lines.ensures.problem in
    let told = subst (λ ys. HaveOverlap S ys c.in-Some.first c.in-Some.second) {x = c.deref.result.now} {y = xs} c.deref.ensures.value
    (subst (λ found. MatchOption found (All (λ x. All (λ y. ¬ (DoOverlap S (length x.residue) x y)) c.deref.result.now) c.deref.result.now)
    (λ pair. HaveOverlap S c.deref.result.now pair.0 pair.1)) c.in-Some.is c.in_ok-first.ensures) in
    (pair_is_overlap S g.met.F.Field.lawful p P c.args.state.now.set c.set-set.ensures.independent xs c.in_ok-exposed.ensures c.in-Some.first
    c.in-Some.second told).2

pub returns : goal.returns
returns g c =
    let S = g.F.Field.scalars in
    let p = c.args.state.now.problem in
    let xs = c.in_ok-exposed.exposed.items in
    let P = subst (IsProblem S) {x = c.problem-problem.result.now} {y = p} c.problem-problem.ensures c.len-lines.ensures.problem in
    let none = subst (λ ys. All (λ x. All (λ y. ¬ (DoOverlap S (length x.residue) x y)) ys) ys) {x = c.deref.result.now} {y = xs}
    c.deref.ensures.value
    (subst (λ found. MatchOption found (All (λ x. All (λ y. ¬ (DoOverlap S (length x.residue) x y)) c.deref.result.now) c.deref.result.now)
    (λ pair. HaveOverlap S c.deref.result.now pair.0 pair.1)) c.in-None.is c.in_ok-first.ensures) in
    no_pair_no_overlap S g.met.F.Field.lawful p P c.args.state.now.set c.set-set.ensures.independent xs c.in_ok-exposed.ensures none

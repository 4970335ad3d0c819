use Rattle.std.proofs.Common.{◌+◌, ◌*◌, true≢false, length, refl, ap, sym, ◌∙◌, arith, below_more}
use Rattle.std.specs.Prelude.{slice_index}
use Rattle.matching_state.specs.Sights.{HasPairAt}
use Rattle.matching_state.proofs.Kept.{kept_problem}
use Rattle.matching_state.proofs.PairTests.{pair_read, false_is_not}
use Rattle.matching_state.proofs.SightLaws.{rest_of_zeros, zeros_of_rest, both_zero}
use Rattle.matching_state.proofs.matched.Matched.has_no_tip.Goals as goal

pub returns-then-ne : goal.returns-then-ne
returns-then-ne g c = λ rest cs q.
    let S = g.F.Field.scalars in
    let F = g.met.F.Field.lawful in
    let s = c.args.self.now in
    let p = c.tip_pair.ensures rest cs q in
    let t = pair_read g.F.PartialEq.eq g.F.Field.number g.met.F.Field.equals S.zero (slice_index cs (2 * c.loop-i.i)) (slice_index cs (2 * c.loop-i.i + 1)) c.tip_pair.result.0 c.tip_pair.result.1 c.zero.result c.zero-in-loop-i.result
    c.ne.result c.ne.ensures c.zero.ensures c.zero-in-loop-i.ensures (sym p.0) (sym p.1) in
    let inside = c.loop-i-test.true in
    let long = c.len-i-end.ensures.value ∙ ap length c.set.ensures.value in (
      λ h. absurd (true≢false (sym h)),
      λ z.
          let zeros = zeros_of_rest S F s.problem (kept_problem S F s c.set.ensures.kept) s.set c.set.ensures.independent cs rest q.combines z c.loop-i.i (omega arith) in
          absurd (t.0 c.if-ne.true zeros),
    )

pub loop-i-preserved : goal.loop-i-preserved
loop-i-preserved g c = λ rest cs q.
    let S = g.F.Field.scalars in
    let p = c.tip_pair.ensures rest cs q in
    let t = pair_read g.F.PartialEq.eq g.F.Field.number g.met.F.Field.equals S.zero (slice_index cs (2 * c.loop-i.i)) (slice_index cs (2 * c.loop-i.i + 1)) c.tip_pair.result.0 c.tip_pair.result.1 c.zero.result c.zero-in-loop-i.result
    c.ne.result c.ne.ensures c.zero.ensures c.zero-in-loop-i.ensures (sym p.0) (sym p.1) in
    let z = both_zero (slice_index cs (2 * c.loop-i.i)) (slice_index cs (2 * c.loop-i.i + 1)) S.zero (λ n. false_is_not c.ne.result c.if-ne.false (t.1 n)) in
    below_more (λ j. HasPairAt cs j S.zero S.zero) c.loop-i.i (c.loop-i.invariant rest cs q) z

pub returns : goal.returns
returns g c = λ rest cs q.
    let S = g.F.Field.scalars in
    let F = g.met.F.Field.lawful in
    let s = c.args.self.now in
    let stop = c.loop-i-test.false in
    let long = c.len-i-end.ensures.value ∙ ap length c.set.ensures.value in (
      λ t. rest_of_zeros S F s.problem (kept_problem S F s c.set.ensures.kept) s.set c.set.ensures.independent cs rest q.combines (λ j h. c.loop-i.invariant rest cs q j (omega arith)),
      λ z. refl,
    )

use Rattle.std.proofs.Common.{◌<◌, ◌+◌, ◌*◌, length, take, ap, ◌∙◌, arith}
use Rattle.std.specs.Prelude.{slice_index}
use Rattle.matching_state.specs.Supports.{IsSupport}
use Rattle.matching_state.proofs.FoundSupports.{support_none, support_below_line, support_kept, support_written, support_whole}
use Rattle.matching_state.proofs.Kept.{kept_problem}
use Rattle.matching_state.proofs.PairTests.{false_is_not}
use Rattle.matching_state.proofs.SightLaws.{both_zero, component_by, component_of_tip}
use Rattle.matching_state.proofs.matched.Matched.support.Goals as goal
use Rattle.matching_state.proofs.matched.Matched.support.Goals.{then-has_component+in_ok-push, else-has_component}

pub loop-i-init : goal.loop-i-init
loop-i-init g c = λ tip cs t. support_none g.F.Field.scalars c.args.self.now.set cs c.new-support.result c.new-support.ensures

pub push-requires : goal.push-requires
push-requires g c =
    let S = g.F.Field.scalars in
    let M = c.args.self.now.set in
    let seen = c.requires in
    let inside = c.loop-i-test.true in
    let count = c.len-i-end.ensures.value ∙ ap length c.set-set.ensures.value in
    support_below_line S M seen.coordinates c.loop-i.i c.loop-i.support (omega arith) c.set-set.ensures.independent.line_set.increasing
    (c.loop-i.invariant seen.tip seen.coordinates seen.tip_is) c.at.result (c.at.ensures ∙ ap (λ N. slice_index N c.loop-i.i) c.set-set.ensures.value)

pub loop-i-preserved : goal.loop-i-preserved
loop-i-preserved g c = λ tip cs t.
    let S = g.F.Field.scalars in
    let F = g.met.F.Field.lawful in
    let s = c.args.self.now in
    let M = s.set in
    let seen = c.requires in
    let i = c.loop-i.i in
    let L = c.loop-i.support in
    let inside = c.loop-i-test.true in
    let count = c.len-i-end.ensures.value ∙ ap length c.set-set.ensures.value in
    let h : i < length M = omega arith in
    let rises = c.set-set.ensures.independent.line_set.increasing in
    let told = component_of_tip S F s.problem (kept_problem S F s c.set-set.ensures.kept) M c.set-set.ensures.independent c.args.exposed.line seen.within seen.exposed tip cs t i h in
    elim c.if-has_component.branch as (λ _. IsSupport S (take (i + 1) M) cs c.if-has_component.support) [
      | then-has_component+in_ok-push w ↦ support_written S M cs i L h rises (c.loop-i.invariant tip cs t) w.push.new.self c.if-has_component.support w.at.result w.support-is w.in_ok-push.ensures.ok
          (w.at.ensures ∙ ap (λ N. slice_index N i) c.set-set.ensures.value) (told.0 (c.has_component.ensures.0 w.if-has_component.true))
      | else-has_component w ↦ support_kept S M cs i L h rises (c.loop-i.invariant tip cs t) c.if-has_component.support w.support-is
          (both_zero (slice_index cs (2 * i)) (slice_index cs (2 * i + 1)) S.zero (λ n. false_is_not c.has_component.result w.if-has_component.false (c.has_component.ensures.1 (told.1 n))))
    ]

pub returns-clause-increasing : goal.returns-clause-increasing
returns-clause-increasing g c =
    let S = g.F.Field.scalars in
    let M = c.args.self.now.set in
    let seen = c.requires in
    let stop = c.loop-i-test.false in
    let count = c.len-i-end.ensures.value ∙ ap length c.set-set.ensures.value in
    (support_whole S M seen.coordinates c.loop-i.i c.loop-i.support (omega arith) (c.loop-i.invariant seen.tip seen.coordinates seen.tip_is)).increasing

pub returns-clause-lines : goal.returns-clause-lines
returns-clause-lines g c = λ m.
    let S = g.F.Field.scalars in
    let F = g.met.F.Field.lawful in
    let s = c.args.self.now in
    let M = s.set in
    let seen = c.requires in
    let stop = c.loop-i-test.false in
    let count = c.len-i-end.ensures.value ∙ ap length c.set-set.ensures.value in
    let whole = support_whole S M seen.coordinates c.loop-i.i c.loop-i.support (omega arith) (c.loop-i.invariant seen.tip seen.coordinates seen.tip_is) in
    let by = component_by S F s.problem (kept_problem S F s c.set-set.ensures.kept) M c.set-set.ensures.independent c.args.exposed.line seen.within seen.exposed seen.tip seen.coordinates seen.tip_is m in
    (λ k. by.1 ((whole.lines m).0 k), λ k. (whole.lines m).1 (by.0 k))

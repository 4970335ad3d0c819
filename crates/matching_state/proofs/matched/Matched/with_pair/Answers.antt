use Rattle.std.proofs.Common.{get_or}
use Rattle.std.proofs.lemmas.Result.{IfOk-weaker}
use Rattle.vector_spaces.proofs.Members.{contains-In, In-get_or}
use Rattle.matching_state.proofs.StepSets.{taken_away, two_line_step}
use Rattle.matching_state.proofs.matched.Matched.with_pair.Goals as goal

pub returns-clause-step : goal.returns-clause-step
returns-clause-step g c =
    let M = c.args.self.now.set in
    let gone = c.args.pair.gone in
    let m = get_or M gone 0 in
    let left = taken_away c.in_ok-kept.kept c.set-set.result.now M c.at.result gone c.set-set.ensures.value c.at.ensures c.in_ok-kept.ensures.1 in
    IfOk-weaker c.with-2.result _ _ (λ set s. two_line_step M c.in_ok-kept.kept c.in_ok-half.half set m c.args.pair.first c.args.pair.second
    (contains-In M m (In-get_or M gone 0 c.requires.within)) c.requires.first_new c.requires.second_new c.requires.different left
    c.in_ok-half.ensures.1 s.1) c.with-2.ensures

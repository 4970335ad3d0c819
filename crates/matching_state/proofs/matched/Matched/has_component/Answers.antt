use Rattle.matching_state.proofs.Kept.{kept_problem}
use Rattle.matching_state.proofs.PairTests.{pair_test}
use Rattle.matching_state.proofs.SightLaws.{component_read}
use Rattle.matching_state.proofs.matched.Matched.has_component.Goals as goal

pub returns : goal.returns
returns g c =
    let S = g.F.Field.scalars in
    let F = g.met.F.Field.lawful in
    let n = g.F.Field.number in
    let s = c.args.self.now in
    let K = c.set-set.ensures.kept in
    let x = c.args.exposed in
    let seen = c.requires.seen in
    let p = c.tip_pair.ensures seen.tip seen.coordinates seen.rest in
    let t = pair_test g.F.PartialEq.eq n g.met.F.Field.equals S.zero c.tip_pair.result.0 c.tip_pair.result.1 c.zero.result c.zero-2.result c.ne.result c.ne.ensures c.zero.ensures c.zero-2.ensures in
    let r = component_read S F s.problem (kept_problem S F s K) s.set K.independent n x (g.met.F.Field.is_scalar x.factor) seen c.args.i (n c.tip_pair.result.0) (n c.tip_pair.result.1) c.requires.index p in
    (λ h. r.1 (t.0 h), λ k. t.1 (r.0 k))

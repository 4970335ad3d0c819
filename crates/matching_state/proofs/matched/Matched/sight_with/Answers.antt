use Rattle.std.proofs.Common.{refl}
use Rattle.matching_state.proofs.PairTests.{false_is_not}
use Rattle.matching_state.proofs.Kept.{kept_problem}
use Rattle.matching_state.proofs.SightLaws.{single_seen, exposed_seen}
use Rattle.matching_state.proofs.matched.Matched.sight_with.Goals as goal

pub returns-then-has_no_tip : goal.returns-then-has_no_tip
returns-then-has_no_tip g c =
    let S = g.F.Field.scalars in
    let F = g.met.F.Field.lawful in
    let s = c.args.self.now in
    let K = c.requires.kept in
    let w = c.requires.rest in
    let r = single_seen S F s.problem (kept_problem S F s K) s.set K.independent g.F.Field.number c.args.seen (g.met.F.Field.is_scalar c.args.seen.factor) w
    ((c.has_no_tip.ensures w.tip w.coordinates w.rest).0 c.if-has_no_tip.true) in
    (refl, r.0, r.1, w.outer)

pub returns-else-has_no_tip : goal.returns-else-has_no_tip
returns-else-has_no_tip g c =
    let S = g.F.Field.scalars in
    let F = g.met.F.Field.lawful in
    let s = c.args.self.now in
    let K = c.requires.kept in
    let w = c.requires.rest in (
      refl,
      exposed_seen S F s.problem (kept_problem S F s K) s.set K.independent g.F.Field.number c.args.seen (g.met.F.Field.is_scalar c.args.seen.factor) w
          (λ z. false_is_not c.has_no_tip.result c.if-has_no_tip.false ((c.has_no_tip.ensures w.tip w.coordinates w.rest).1 z)),
    )

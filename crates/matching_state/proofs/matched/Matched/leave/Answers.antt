use Rattle.std.proofs.Math.Path.{subst⁻¹}
use Rattle.std.proofs.Common.{◌+◌, ◌<◌, ◌∙◌, ℕ, List, length, refl, ap, subst, arith}
use Rattle.matching_state.specs.Chosen.{Chosen}
use Rattle.matching_state.proofs.SetsBetween.{IsLeaving, all_left, none_left, one_left, one_stays, still_held}
use Rattle.matching_state.proofs.matched.Matched.leave.Goals as goal
use Rattle.matching_state.proofs.matched.Matched.leave.Goals.{then-not-holds+in_ok-remove, else-not-holds}

pub loop-i-init : goal.loop-i-init
loop-i-init g c = record {
  problem = refl;
  leaving = subst (λ (M : List ℕ). IsLeaving c.args.lines.now c.args.other.now M 0) c.requires (none_left c.args.lines.now c.args.other.now);
}

pub remove-requires : goal.remove-requires
remove-requires g c =
    let inside : c.loop-i.i < length c.args.lines.now = let e = c.len-i-end.ensures.value in omega arith in
    still_held c.args.lines.now c.args.other.now c.loop-i.self.set c.loop-i.i c.at-line.result inside c.at-line.ensures c.loop-i.invariant.leaving

pub loop-i-preserved : goal.loop-i-preserved
loop-i-preserved g c =
    let inside : c.loop-i.i < length c.args.lines.now = let e = c.len-i-end.ensures.value in omega arith in
    let lines = c.args.lines.now in
    let other = c.args.other.now in
    let held = c.loop-i.self.set in
    let i = c.loop-i.i in
    elim c.if-not-holds.branch [
      | then-not-holds+in_ok-remove w ↦ record {
        problem = ap (λ (s : Chosen). s.problem) w.self-is ∙ w.remove.ensures.problem ∙ c.loop-i.invariant.problem;
        leaving = subst⁻¹ (λ (s : Chosen). IsLeaving lines other s.set (i + 1)) w.self-is
            (one_left lines other held i c.at-line.result inside c.at-line.ensures c.loop-i.invariant.leaving c.len-i-end.ensures.increasing
            w.remove.new.self.set w.in_ok-remove.ensures.ok);
      }
      | else-not-holds w ↦ record {
        problem = ap (λ (s : Chosen). s.problem) w.self-is ∙ c.loop-i.invariant.problem;
        leaving = subst⁻¹ (λ (s : Chosen). IsLeaving lines other s.set (i + 1)) w.self-is
            (one_stays lines other held i c.at-line.result inside c.at-line.ensures c.loop-i.invariant.leaving (c.holds.ensures.0 w.if-not-holds.false));
      }
    ]

pub returns-clause-within : goal.returns-clause-within
returns-clause-within g c =
    let e = c.len-i-end.ensures.value in
    all_left c.args.lines.now c.args.other.now c.loop-i.self.set c.loop-i.i (omega arith) c.loop-i.invariant.leaving

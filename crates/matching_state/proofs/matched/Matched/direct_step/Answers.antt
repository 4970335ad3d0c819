use Rattle.std.proofs.Common.{◌≡◌, ℕ, List, All, subst, sym}
use Rattle.std.specs.Prelude.{◌↔◌, ◌⊎◌}
use Rattle.std.specs.List.{Contains}
use Rattle.matching_state.specs.Pairs.{HasPair, HasNoPair}
use Rattle.matching_state.specs.Sights.{IsSeen}
use Rattle.matching_state.specs.Surveys.{TellsSurvey}
use Rattle.matching_state.proofs.DirectStep.{free_step, pair_first_new, pair_second_new, pair_different, pair_step, no_step}
use Rattle.matching_state.proofs.Kept.{kept_problem}
use Rattle.matching_state.proofs.matched.Matched.direct_step.Goals as goal

pub returns-in-Free : goal.returns-in-Free
returns-in-Free g c =
    let S = g.F.Field.scalars in
    let F = g.met.F.Field.lawful in
    let s = c.args.self.now in
    let M = s.set in
    let N = c.in_ok-with-in-Free.field-0 in
    let e = c.in-Free.line in
    let With : List ℕ → Type 0 = λ L. (l : ℕ) → Contains N l ↔ (Contains L l ⊎ (l ≡ e)) in
    let t = subst (TellsSurvey S g.F.Field.number s.problem M) c.in-Free.is c.in_ok-line.ensures in
    free_step S F s.problem (kept_problem S F s c.set-set.ensures.kept) M c.set-set.ensures.independent e N t c.in_ok-with-in-Free.ensures.0 (subst With c.set-set.ensures.value c.in_ok-with-in-Free.ensures.1)

pub pair_of-requires : goal.pair_of-requires
pair_of-requires g c =
    let S = g.F.Field.scalars in
    let s = c.args.self.now in
    let a = subst (TellsSurvey S g.F.Field.number s.problem s.set) c.in-Exposed.is c.in_ok-line.ensures in
    subst (λ xs. All (λ x. IsSeen S g.F.Field.number s.problem s.set x.exposed) xs) (sym c.deref.ensures.value) a.0.seen

pub with_pair-requires : goal.with_pair-requires
with_pair-requires g c =
    let S = g.F.Field.scalars in
    let F = g.met.F.Field.lawful in
    let n = g.F.Field.number in
    let s = c.args.self.now in
    let P = kept_problem S F s c.set-set.ensures.kept in
    let i = c.set-set.ensures.independent in
    let xs = c.in-Exposed.entries.items in
    let pair = c.in-Some.pair in
    let a = subst (TellsSurvey S n s.problem s.set) c.in-Exposed.is c.in_ok-line.ensures in
    let w = subst (λ xs. HasPair S n s.problem s.set xs pair.gone pair.first pair.second) c.deref.ensures.value c.in-Some.ensures.1 in
    record {
      within = c.in-Some.ensures.0;
      first_new = pair_first_new S F s.problem P s.set i n g.met.F.Field.is_scalar xs a.0 a.1 pair.gone pair.first pair.second w;
      second_new = pair_second_new S F s.problem P s.set i n g.met.F.Field.is_scalar xs a.0 a.1 pair.gone pair.first pair.second w;
      different = pair_different S F s.problem P s.set i n g.met.F.Field.is_scalar xs a.0 a.1 pair.gone pair.first pair.second w;
    }

pub returns-in-Some : goal.returns-in-Some
returns-in-Some g c =
    let S = g.F.Field.scalars in
    let F = g.met.F.Field.lawful in
    let n = g.F.Field.number in
    let s = c.args.self.now in
    let P = kept_problem S F s c.set-set.ensures.kept in
    let i = c.set-set.ensures.independent in
    let xs = c.in-Exposed.entries.items in
    let pair = c.in-Some.pair in
    let a = subst (TellsSurvey S n s.problem s.set) c.in-Exposed.is c.in_ok-line.ensures in
    let w = subst (λ xs. HasPair S n s.problem s.set xs pair.gone pair.first pair.second) c.deref.ensures.value c.in-Some.ensures.1 in
    pair_step S F s.problem P s.set i n g.met.F.Field.is_scalar xs a.0 a.1 pair.gone pair.first pair.second w c.in_ok-with_pair-in-Some.field-0 c.in-Some.ensures.0 c.in_ok-with_pair-in-Some.ensures.increasing c.in_ok-with_pair-in-Some.ensures.step

pub returns : goal.returns
returns g c =
    let S = g.F.Field.scalars in
    let F = g.met.F.Field.lawful in
    let n = g.F.Field.number in
    let s = c.args.self.now in
    let P = kept_problem S F s c.set-set.ensures.kept in
    let i = c.set-set.ensures.independent in
    let xs = c.in-Exposed.entries.items in
    let a = subst (TellsSurvey S n s.problem s.set) c.in-Exposed.is c.in_ok-line.ensures in
    no_step S F s.problem P s.set i n g.met.F.Field.is_scalar xs a.0 a.1 (λ k h. subst (λ xs. HasNoPair S n s.problem s.set xs k) c.deref.ensures.value (c.in-None.ensures k h))

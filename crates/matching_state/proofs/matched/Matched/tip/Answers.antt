use Rattle.std.proofs.Common.{◌≡◌, length, ap, ap₂, subst, sym, ◌∙◌}
use Rattle.std.proofs.lemmas.List.{length-map}
use Rattle.linear_algebra.specs.Vectors.{vector_sum, multiple}
use Rattle.matching_state.specs.LinePlaces.{IsTip}
use Rattle.matching_state.specs.Sights.{IsRest, outer_of, other_of}
use Rattle.matching_state.proofs.Findings.{both_vectors}
use Rattle.matching_state.proofs.Kept.{kept_problem}
use Rattle.matching_state.proofs.SightLaws.{of_line, rest_is}
use Rattle.matching_state.proofs.matched.Matched.tip.Goals as goal

pub other-requires : goal.other-requires
other-requires g c = c.requires.within

pub outer-requires : goal.outer-requires
outer-requires g c = c.requires.within

pub add_multiple-requires : goal.add_multiple-requires
add_multiple-requires g c =
    let S = g.F.Field.scalars in
    let F = g.met.F.Field.lawful in
    let s = c.args.self.now in
    let x = c.args.exposed in
    let K = c.set-set.ensures.kept in
    let both = both_vectors S F s.problem (kept_problem S F s K) s.set K.independent x.line c.requires.within (outer_of s.problem x.line x.second) (other_of s.problem x.line x.second) (of_line s.problem x.line x.second) in
    sym (length-map c.outer.result.now g.F.Field.number) ∙ ap length c.outer.ensures ∙ both.0.length_is ∙ sym both.1.length_is ∙ sym (ap length (c.in_ok-tip.ensures ∙ c.other.ensures))

pub returns : goal.returns
returns g c =
    let S = g.F.Field.scalars in
    let F = g.met.F.Field.lawful in
    let n = g.F.Field.number in
    let s = c.args.self.now in
    let x = c.args.exposed in
    let seen = c.requires in
    let K = c.set-set.ensures.kept in
    let is : c.add_multiple.new.self ≡ seen.tip =
    c.add_multiple.ensures ∙ ap₂ (λ a b. vector_sum S a (multiple S (n c.neg.result) b)) (c.in_ok-tip.ensures ∙ c.other.ensures) c.outer.ensures
    ∙ sym (rest_is S F s.problem (kept_problem S F s K) s.set K.independent x.line x.second (n x.factor) (n c.neg.result) seen.tip seen.coordinates seen.within
    (g.met.F.Field.is_scalar x.factor) (g.met.F.Field.is_scalar c.neg.result) c.neg.ensures seen.rest) in (
      seen.coordinates,
      subst (λ t. IsTip S s.problem s.set x.line t seen.coordinates) (sym is) seen.tip_is,
      subst (λ t. IsRest S s.problem s.set x.line x.second (n x.factor) t seen.coordinates) (sym is) seen.rest,
    )

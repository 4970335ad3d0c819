use Rattle.std.proofs.Common.{None, Some, inl, inr, sym, ◌∙◌, subst}
use Rattle.linear_algebra.specs.Vectors.{AreVectors}
use Rattle.exchanges.proofs.OffersOfLines.{line_out_told, spanned_offers_nothing, closed_offers_nothing, exchange_found}
use Rattle.exchanges.specs.Offers.{OffersNothing}
use Rattle.matching_state.specs.LinePlaces.{IsPlace}
use Rattle.matching_state.proofs.Ties.{in_line_vector}
use Rattle.parity_lines.specs.Problems.{IsProblem}
use Rattle.exchanges.proofs.offer.offer_of.Goals as goal

pub line_out-requires : goal.line_out-requires
line_out-requires g c =
    let S = g.F.Field.scalars in
    let p = c.args.state.now.problem in
    let P = subst (IsProblem S) c.problem.ensures c.len-lines.ensures.problem in
    let place = subst (IsPlace S p c.args.state.now.set c.args.line) c.in-Exposed.is c.in_ok-position.ensures in
    let long = (in_line_vector S g.met.F.Field.lawful p P c.args.line c.in-Exposed.outer c.requires.within place.1.in_line).length_is in
    c.as_slice.ensures.len ∙ long ∙ sym c.requires.width

pub returns-in-Some : goal.returns-in-Some
returns-in-Some g c =
    let S = g.F.Field.scalars in
    let p = c.args.state.now.problem in
    let M = c.args.state.now.set in
    let T = c.args.target.now in
    let vs = c.args.basis.now.rows in
    let P = subst (IsProblem S) c.problem.ensures c.len-lines.ensures.problem in
    let place = subst (IsPlace S p M c.args.line) c.in-Exposed.is c.in_ok-position.ensures in
    let tip = place.2 in
    let k = subst (λ d. AreVectors S d vs) c.requires.width c.rank-rank.ensures.vectors in
    let told = line_out_told S p.dimension c.args.basis.now.width vs T _ c.in-Exposed.outer c.in-Exposed.support c.in_ok-out-in-Exposed.field-0 (Some c.in-Some.out)
    c.requires.width c.as_slice.ensures.value c.in-Some.is c.in_ok-out-in-Exposed.ensures in
    exchange_found S g.met.F.Field.lawful p P M c.set-set.ensures.independent T c.args.line c.requires.within vs k place.0
    c.in-Exposed.tip tip.0 c.in-Exposed.outer tip.1 place.1 c.in-Exposed.support tip.2
    c.requires.in_target told.0 c.in-Some.out told.1 told.2

pub returns : goal.returns
returns g c =
    let S = g.F.Field.scalars in
    let F = g.met.F.Field.lawful in
    let p = c.args.state.now.problem in
    let M = c.args.state.now.set in
    let T = c.args.target.now in
    let vs = c.args.basis.now.rows in
    let i = c.set-set.ensures.independent in
    let P = subst (IsProblem S) c.problem.ensures c.len-lines.ensures.problem in
    let place = subst (IsPlace S p M c.args.line) c.in-Exposed.is c.in_ok-position.ensures in
    let tip = place.2 in
    let k = subst (λ d. AreVectors S d vs) c.requires.width c.rank-rank.ensures.vectors in
    let told = line_out_told S p.dimension c.args.basis.now.width vs T _ c.in-Exposed.outer c.in-Exposed.support c.in_ok-out-in-Exposed.field-0 None
    c.requires.width c.as_slice.ensures.value c.in-None.is c.in_ok-out-in-Exposed.ensures in
    elim told as (λ _. OffersNothing S p vs T M c.args.line) [
      | inl s ↦ spanned_offers_nothing S F p P M i T c.args.line c.requires.within vs k place.0 c.in-Exposed.tip tip.0 c.in-Exposed.outer
          tip.1 place.1 c.requires.spans s
      | inr n ↦ closed_offers_nothing S F p P M i T c.args.line c.requires.within vs k place.0 c.in-Exposed.tip tip.0 c.in-Exposed.outer
          tip.1 place.1 c.in-Exposed.support tip.2 n
    ]

use Rattle.std.proofs.Common.{Option, subst}
use Rattle.std.proofs.lemmas.Result.{IfOk-weaker}
use Rattle.linear_algebra.specs.Vectors.{AreVectors}
use Rattle.exchanges.proofs.SameSpan.{first_of_span, set_spanned}
use Rattle.exchanges.specs.declared.offer.Offer.{Offer}
use Rattle.parity_lines.specs.Problems.{IsProblem}
use Rattle.exchanges.proofs.offer.first_offer.Goals as goal

pub offer_along-requires-clause-spans : goal.offer_along-requires-clause-spans
offer_along-requires-clause-spans g c =
    let S = g.F.Field.scalars in
    let p = c.args.state.now.problem in
    let keep = c.args.keep.now.rows in
    let P = subst (IsProblem S) c.problem-problem.ensures c.len-lines.ensures.problem in
    set_spanned S g.met.F.Field.lawful p P c.args.state.now.set keep c.in_ok-basis.basis c.set-set.ensures.independent.line_set.within
    (subst (λ d. AreVectors S d keep) c.requires.width c.len-kept.ensures.vectors) c.in_ok-basis.ensures

pub returns : goal.returns
returns g c =
    let S = g.F.Field.scalars in
    let p = c.args.state.now.problem in
    let M = c.args.state.now.set in
    let T = c.args.target.now in
    let keep = c.args.keep.now.rows in
    let basis = c.in_ok-basis.basis in
    let h = c.in_ok-basis.ensures in
    IfOk-weaker c.offer_along.result _ _
    (λ (found : Option Offer) k. first_of_span S p T M keep basis h found k)
    c.offer_along.ensures

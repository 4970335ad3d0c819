use Rattle.std.proofs.Common.{get_or, below_more, arith, subst, sym}
use Rattle.std.proofs.lemmas.List.Elements.{Contains-get_or}
use Rattle.std.specs.List.{Contains}
use Rattle.parity_lines.proofs.LinesPassed.{each_line}
use Rattle.exchanges.proofs.OffersOfLines.{nothing_found}
use Rattle.exchanges.specs.Offers.{OffersNothing}
use Rattle.exchanges.proofs.offer.offer_along.Goals as goal

pub offer_of-requires-clause-in_target : goal.offer_of-requires-clause-in_target
offer_of-requires-clause-in_target g c = subst (λ m. Contains c.args.target.now m) (sym c.at.ensures)
    (Contains-get_or c.args.target.now c.loop-i.i 0 (omega arith))

pub loop-i-preserved : goal.loop-i-preserved
loop-i-preserved g c =
    let S = g.F.Field.scalars in
    let p = c.args.state.now.problem in
    let vs = c.args.basis.now.rows in
    let T = c.args.target.now in
    let M = c.args.state.now.set in
    below_more (λ k. OffersNothing S p vs T M (get_or T k 0)) c.loop-i.i c.loop-i.invariant
    (nothing_found S p vs T M c.at.result (get_or T c.loop-i.i 0) c.in_ok-offer.field-0 c.at.ensures c.in_default.is c.in_ok-offer.ensures)

pub returns : goal.returns
returns g c = each_line
    (λ m. OffersNothing g.F.Field.scalars c.args.state.now.problem c.args.basis.now.rows c.args.target.now c.args.state.now.set m)
    c.args.target.now c.loop-i.i (omega arith) c.loop-i.invariant

use Rattle.std.proofs.Common.{rules, subst}
use Rattle.std.specs.Prelude.{IsTrue}
use Rattle.matching_state.specs.LinePlaces.{IsPlace}
use Rattle.worked_cases.proofs.keeping.exchange.Goals as goal

pub exchange-requires-clause-support : goal.exchange-requires-clause-support
exchange-requires-clause-support g c =
    let place = subst (IsPlace g.F.Field.scalars c.args.state.now.problem c.args.state.now.set c.args.into) c.in-Exposed.is c.in_ok-support.ensures in
    let tip = place.2 in
    let held : IsTrue c.holds.result = search rules in
    (c.in-Exposed.tip, tip.0, tip.1, (tip.2.lines c.args.out).0 (c.holds.ensures.0 held))

use Rattle.std.proofs.Common.{subst}
use Rattle.matching_state.specs.Overlaps.{InSupport}
use Rattle.search.proofs.Lists.{at_same}
use Rattle.search.proofs.Sizes.{keeps_exchanged}
use Rattle.search.proofs.exchanging.take_place.Goals as goal

pub exchange-requires-clause-support : goal.exchange-requires-clause-support
exchange-requires-clause-support g c =
    let s = c.args.state.now in
    subst (InSupport g.F.Field.scalars s.problem s.set c.args.exposed.line)
    (at_same c.set.result.now s.set c.args.i c.at-out.result c.set.ensures.value c.at-out.ensures) c.requires.support

pub returns-clause-keeps : goal.returns-clause-keeps
returns-clause-keeps g c =
    keeps_exchanged g.F.Field.scalars c.args.state.now c.exchange.new.self c.at-out.result c.args.exposed.line
    c.exchange.ensures.problem c.set.ensures.independent c.exchange.ensures.independent c.in_ok-exchange.ensures.ok

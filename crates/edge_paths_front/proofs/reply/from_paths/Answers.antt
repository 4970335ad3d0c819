use Rattle.std.proofs.Common.{[]}
use Rattle.edge_paths_front.proofs.SecondGraphLaw.{paths_some, paths_within, found_some, found_within, found_apart, answered_family, answered_number, answered_ordered, answered_largest}
use Rattle.edge_paths_front.proofs.reply.from_paths.Goals as goal

pub all_along-requires-clause-some : goal.all_along-requires-clause-some
all_along-requires-clause-some c = paths_some c.args.graph.now c.args.paths.now [] c.requires.family

pub all_along-requires-clause-darts : goal.all_along-requires-clause-darts
all_along-requires-clause-darts c = paths_within c.args.graph.now c.args.paths.now [] c.requires.family

pub in_order-requires-clause-some : goal.in_order-requires-clause-some
in_order-requires-clause-some c = found_some c.args.graph.now c.args.paths.now c.in_ok-found.found c.requires.family c.in_ok-found.ensures

pub in_order-requires-clause-darts : goal.in_order-requires-clause-darts
in_order-requires-clause-darts c = found_within c.args.graph.now c.args.paths.now c.in_ok-found.found c.requires.family
    c.in_ok-found.ensures

pub in_order-requires-clause-differ : goal.in_order-requires-clause-differ
in_order-requires-clause-differ c = found_apart c.args.graph.now c.args.paths.now c.in_ok-found.found c.requires.family
    c.in_ok-found.ensures

pub returns-clause-family : goal.returns-clause-family
returns-clause-family c = answered_family c.args.graph.now c.args.paths.now c.in_ok-found.found c.requires.family c.in_ok-found.ensures
    c.in_order.result c.in_order.ensures

pub returns-clause-number : goal.returns-clause-number
returns-clause-number c = answered_number c.args.graph.now c.args.paths.now c.in_ok-found.found c.requires.family c.in_ok-found.ensures
    c.in_order.result c.in_order.ensures

pub returns-clause-ordered : goal.returns-clause-ordered
returns-clause-ordered c = answered_ordered c.args.graph.now c.args.paths.now c.in_ok-found.found c.requires.family c.in_ok-found.ensures
    c.in_order.result c.in_order.ensures

pub returns-clause-largest : goal.returns-clause-largest
returns-clause-largest c h = answered_largest c.args.graph.now c.args.paths.now c.in_ok-found.found c.requires.family c.in_ok-found.ensures
    c.in_order.result c.in_order.ensures h

use Rattle.std.specs.Prelude.{slice_index}
use Rattle.graph_theory.proofs.Walks.{least_is_label}
use Rattle.parity_program.proofs.connection.connected.Goals as goal

pub apart_from_first-requires-clause-labels : goal.apart_from_first-requires-clause-labels
apart_from_first-requires-clause-labels c v l =
    least_is_label c.args.graph.now.ends v (slice_index c.in_ok-labels.labels v) (c.in_ok-labels.ensures.least v l)

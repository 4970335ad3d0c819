use Rattle.graph_theory.proofs.Walks.{least_is_label}
use Rattle.std.specs.Prelude.{slice_index}
use Rattle.s_paths_front.proofs.counts.free_components.Goals as goal

pub free_roots-requires-clause-labels : goal.free_roots-requires-clause-labels
free_roots-requires-clause-labels c v l = least_is_label c.args.graph.now.ends v (slice_index c.in_ok-labels.labels v)
    (c.in_ok-labels.ensures.least v l)

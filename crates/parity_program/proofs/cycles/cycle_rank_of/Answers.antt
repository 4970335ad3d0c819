use Rattle.std.proofs.Common.{arith, length}
use Rattle.std.specs.Prelude.{slice_index}
use Rattle.graph_theory.proofs.Forests.{edges_plus_components}
use Rattle.graph_theory.proofs.Shuffles.{in_range}
use Rattle.graph_theory.proofs.Walks.{least_is_label}
use Rattle.vector_spaces.proofs.Members.{In-all}
use Rattle.parity_program.proofs.cycles.cycle_rank_of.Goals as goal

pub roots-components-requires-clause-labels : goal.roots-components-requires-clause-labels
roots-components-requires-clause-labels c v l =
    least_is_label c.args.graph.now.ends v (slice_index c.in_ok-labels.labels v) (c.in_ok-labels.ensures.least v l)

pub overflow_sub-result : goal.overflow_sub-result
overflow_sub-result c =
    let g = c.args.graph.now in
    let most = edges_plus_components (length g.names) g.ends
    (in_range (length g.names) g.ends (In-all _ g.ends c.edges-edges.ensures.graph.within)) in
    omega (arith, most)

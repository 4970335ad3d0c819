use Rattle.std.proofs.Common.{◌≡◌, length}
use Rattle.forest_pairs_front.specs.PairLines.{edge_sum, first_pairs}
use Rattle.forest_pairs_front.proofs.forests.problem_over.Given as goal

abbrev pub invariant-loop-pair : goal.invariant-loop-pair
invariant-loop-pair g l = l.problem
    ≡ first_pairs (length l.graph.names) (edge_sum g.F.Field.scalars (length l.graph.names) l.graph.ends) l.pair

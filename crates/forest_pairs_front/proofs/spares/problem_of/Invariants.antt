use Rattle.std.proofs.Common.{◌≡◌}
use Rattle.forest_pairs_front.specs.PairLines.{edge_row, first_pairs}
use Rattle.forest_pairs_front.proofs.spares.problem_of.Given as goal

abbrev pub invariant-loop-pair : goal.invariant-loop-pair
invariant-loop-pair g l = l.problem ≡ first_pairs l.rows.width (edge_row l.rows) l.pair

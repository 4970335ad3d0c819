use Rattle.std.proofs.Common.{◌≡◌, ◌++◌}
use Rattle.graph_theory.specs.Walks.{edge_at}
use Rattle.graph_core.specs.Gathered.{gathered, pair_by}
use Rattle.graph_core.proofs.adjacent_pairs.push_pairs_at.Given as goal

abbrev pub invariant-loop-second : goal.invariant-loop-second
invariant-loop-second l = l.found ≡ l.initial.found ++ gathered (pair_by (edge_at l.graph.ends) l.first) l.second

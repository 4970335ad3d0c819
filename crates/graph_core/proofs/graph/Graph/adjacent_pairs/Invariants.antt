use Rattle.std.proofs.Common.{◌≡◌, length}
use Rattle.graph_theory.specs.Walks.{edge_at}
use Rattle.graph_core.specs.Gathered.{gathered, pairs_at}
use Rattle.graph_core.proofs.graph.Graph.adjacent_pairs.Given as goal

abbrev pub invariant-loop-first : goal.invariant-loop-first
invariant-loop-first l = l.found ≡ gathered (pairs_at (edge_at l.self.ends) (length l.self.ends)) l.first

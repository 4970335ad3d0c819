use Rattle.std.proofs.Common.{◌≡◌, length, ap, subst, sym, ◌∙◌, arith}
use Rattle.graph_theory.specs.Walks.{edge_at}
use Rattle.graph_core.specs.Adjacency.{AreAdjacentPairs}
use Rattle.graph_core.specs.Gathered.{gathered, pairs_at}
use Rattle.graph_core.proofs.PairLists.{adjacent_pairs}
use Rattle.graph_core.proofs.graph.Graph.adjacent_pairs.Goals as goal

pub returns : goal.returns
returns c =
    let E = c.args.self.now.ends in
    let end : length E ≡ c.loop-first.first = omega arith in
    let whole = ap (gathered (pairs_at (edge_at E) (length E))) end ∙ sym c.loop-first.invariant in
    subst (AreAdjacentPairs E) whole (adjacent_pairs E)

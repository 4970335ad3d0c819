use Rattle.std.proofs.Common.{length, map}
use Rattle.forest_pairs_front.specs.PairLines.{edge_sum}
use Rattle.forest_pairs_front.proofs.PairProblems.{one_pair_more_by}
use Rattle.forest_pairs_front.proofs.forests.problem_over.Goals as goal

pub loop-pair-preserved : goal.loop-pair-preserved
loop-pair-preserved g c =
    one_pair_more_by (length c.args.graph.now.names) (edge_sum g.F.Field.scalars (length c.args.graph.now.names) c.args.graph.now.ends)
    c.loop-pair.pair c.loop-pair.problem c.push.new.self (map g.F.Field.number c.as_slice.result.now)
    (map g.F.Field.number c.as_slice-in-loop-pair.result.now) c.in_ok-first.first c.in_ok-second.second
    c.loop-pair.invariant c.in_ok-push.ensures.ok
    c.as_slice.ensures.value c.in_ok-first.ensures.value c.as_slice-in-loop-pair.ensures.value c.in_ok-second.ensures.value

use Rattle.std.proofs.Common.{map}
use Rattle.forest_pairs_front.specs.PairLines.{edge_row}
use Rattle.forest_pairs_front.proofs.PairProblems.{one_pair_more}
use Rattle.forest_pairs_front.proofs.spares.problem_of.Goals as goal

pub loop-pair-preserved : goal.loop-pair-preserved
loop-pair-preserved g c =
    one_pair_more c.args.rows.now.width (edge_row c.args.rows.now) c.loop-pair.pair c.loop-pair.problem c.push.new.self
    (map g.F.Field.number c.row.result.now) (map g.F.Field.number c.row-in-loop-pair.result.now)
    c.loop-pair.invariant c.in_ok-push.ensures.ok c.row.ensures.value c.row-in-loop-pair.ensures.value

use Rattle.parity_program.proofs.PathsInGraphs.{family_within, in_order}
use Rattle.parity_program.proofs.Written.{is_done}
use Rattle.parity_program.proofs.spaths.spaths.Goals as goal

pub from_set-requires-clause-set : goal.from_set-requires-clause-set
from_set-requires-clause-set c = rw (← c.in_ok-converted.ensures.problem) c.in_ok-answer.ensures.good.independent_set

pub write_paths-requires-clause-vertices : goal.write_paths-requires-clause-vertices
write_paths-requires-clause-vertices c =
    family_within c.args.graph.now c.edges-edges.ensures.graph c.requires _ c.in_ok-paths.ensures.family

pub write_paths-requires-clause-order : goal.write_paths-requires-clause-order
write_paths-requires-clause-order c = in_order _ c.in_ok-paths.ensures.ordered

pub returns : goal.returns
returns c = (
  c.in_ok-paths.paths,
  c.in_ok-paths.ensures.largest (rw (← c.in_ok-converted.ensures.problem) c.in_ok-answer.ensures.largest),
  c.in_ok-paths.ensures.ordered,
  is_done _ _ _ _ c.done.ensures c.new-text.ensures.items c.in_ok-write_paths.ensures,
)

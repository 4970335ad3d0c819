use Rattle.parity_program.proofs.Written.{is_done}
use Rattle.parity_program.proofs.matching.matching.Goals as goal
use Rattle.vector_spaces.proofs.Members.{all-In}

pub from_set-requires : goal.from_set-requires
from_set-requires c = rw (← c.in_ok-problem.ensures) c.in_ok-answer.ensures.good.independent_set

pub write_matching-requires-clause-edges : goal.write_matching-requires-clause-edges
write_matching-requires-clause-edges c = all-In _ _ c.in_ok-edges.ensures.matching.edges

pub write_matching-requires-clause-increasing : goal.write_matching-requires-clause-increasing
write_matching-requires-clause-increasing c = c.in_ok-edges.ensures.matching.increasing

pub returns : goal.returns
returns c = (
  c.in_ok-edges.edges,
  c.in_ok-edges.ensures.largest (rw (← c.in_ok-problem.ensures) c.in_ok-answer.ensures.largest),
  is_done _ _ _ _ c.done.ensures c.new-text.ensures.items c.in_ok-write_matching.ensures,
)

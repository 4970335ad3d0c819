use Rattle.parity_program.proofs.Written.{is_done}
use Rattle.parity_program.proofs.spare_pairs.spare_pairs.Goals as goal

pub returns : goal.returns
returns c = (
  c.in_ok-answer.answer.set,
  (c.in_ok-problem.ensures.largest c.in_ok-answer.answer.set).0 c.in_ok-answer.ensures.largest,
  is_done _ _ _ _ c.done.ensures c.new-text.ensures.items c.in_ok-write_pairs.ensures,
)

use Rattle.parity_program.proofs.Written.{is_done}
use Rattle.parity_program.proofs.feedback.feedback.Goals as goal

pub write_feedback-requires-clause-vertices : goal.write_feedback-requires-clause-vertices
write_feedback-requires-clause-vertices c = c.in_ok-set.ensures.feedback.within

pub write_feedback-requires-clause-increasing : goal.write_feedback-requires-clause-increasing
write_feedback-requires-clause-increasing c = c.in_ok-set.ensures.feedback.increasing

pub returns : goal.returns
returns c = (
  c.in_ok-set.set,
  c.in_ok-set.ensures,
  is_done _ _ _ _ c.done.ensures c.new-text.ensures.items c.in_ok-write_feedback.ensures,
)

use Rattle.parity_program.proofs.Written.{is_done}
use Rattle.parity_program.proofs.solve.solved.Goals as goal
use Rattle.parity_text.specs.Shown.{answer_value}

pub returns : goal.returns
returns g c = (
  answer_value c.in_ok-answer.answer,
  c.in_ok-answer.ensures.good,
  c.in_ok-answer.ensures.largest,
  c.in_ok-answer.ensures.order,
  is_done _ _ _ _ c.done.ensures c.new-text.ensures.items c.in_ok-write_answer.ensures,
)

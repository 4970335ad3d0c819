use Rattle.parity_program.proofs.Written.{is_done}
use Rattle.parity_program.proofs.sample.sample.Goals as goal

pub returns : goal.returns
returns c = (
  c.in_ok-problem.problem,
  c.in_ok-problem.ensures,
  c.in_ok-size.size,
  c.in_ok-size.ensures,
  is_done _ _ _ _ c.done.ensures c.new-text.ensures.items c.in_ok-put_sample.ensures,
)

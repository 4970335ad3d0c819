use Rattle.parity_program.proofs.Written.{is_done_behind}
use Rattle.parity_program.proofs.convert.converted.Goals as goal

pub returns : goal.returns
returns g c = is_done_behind _ _ _ _ _ _ c.done.ensures c.new-text.ensures.items c.in_ok-put_offset.ensures c.in_ok-write_problem.ensures

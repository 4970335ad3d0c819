use Rattle.parity_program.proofs.Refusals.{numbers_pass}
use Rattle.parity_program.proofs.running.reply_without_source.Goals as goal
use Rattle.parity_program.specs.Inputs.{numbered, reading}

pub returns-clause-replies : goal.returns-clause-replies
unfolding reading
returns-clause-replies c left =
    (numbered c.args.command c.args.n, numbers_pass c.args.command c.args.n, c.in_ok-reply_to_number.ensures)

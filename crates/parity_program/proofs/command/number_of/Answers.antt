use Rattle.std.proofs.Common.{arith}
use Rattle.std.proofs.lemmas.Fmt.{parse-decimal}
use Rattle.parity_program.proofs.command.number_of.Goals as goal

pub returns-clause-all : goal.returns-clause-all
returns-clause-all c n h e =
    rw (parse-decimal 32 n c.args.word.now c.parse.result h (omega (arith, h)) e c.parse.ensures.value.0) at c.ok.ensures.value

use Rattle.parity_program.proofs.running.reply_of.Goals as goal

pub returns-in-OfNumber-clause-replies : goal.returns-in-OfNumber-clause-replies
returns-in-OfNumber-clause-replies g c = rw c.in-OfNumber.is (c.reply_without_source.ensures.replies (g.I.Source.left c.args.input.now))

pub returns-in-OfNumber-clause-read : goal.returns-in-OfNumber-clause-read
returns-in-OfNumber-clause-read g c = c.reply_without_source.ensures.read (g.I.Source.faults c.args.input.now)

pub returns-in-OfNumber-clause-long : goal.returns-in-OfNumber-clause-long
returns-in-OfNumber-clause-long g c = c.reply_without_source.ensures.long (g.I.Source.given c.args.input.now)

use Rattle.std.proofs.lemmas.Result.{err_from_is_err_and}
use Rattle.parity_program.proofs.Outcomes.{of_all_read, unread_refuses}
use Rattle.parity_program.proofs.running.reply_to_source.Goals as goal

pub returns-in_err-bytes-clause-replies : goal.returns-in_err-bytes-clause-replies
returns-in_err-bytes-clause-replies g c =
    let p = err_from_is_err_and c.from_residual.result c.from_residual.ensures.1 in
    rw (p.1, p.2) (unread_refuses c.args.command
    (g.I.Source.left c.args.input.now) _ _ c.in_err-bytes.field-0.0 c.in_err-bytes.ensures.long)

pub returns-clause-replies : goal.returns-clause-replies
returns-clause-replies g c =
    of_all_read c.args.command (g.I.Source.left c.args.input.now) c.in_ok-bytes.bytes.items c.reply_to.result c.in_ok-bytes.ensures.whole
    c.in_ok-bytes.ensures.within
    (rw c.deref.ensures.value at c.reply_to.ensures.replies)

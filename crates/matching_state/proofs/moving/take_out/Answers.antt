use Rattle.std.proofs.Common.{sym, ◌∙◌}
use Rattle.matching_state.proofs.Reorders.{line_out}
use Rattle.matching_state.proofs.moving.take_out.Goals as goal

pub returns-in-Some-clause-listed : goal.returns-in-Some-clause-listed
returns-in-Some-clause-listed g c = λ p K k a n h.
    line_out g.F.Field.scalars p c.args.set.now K c.in-Some.i c.args.line c.args.frame.now c.move_last.new.frame c.in-Some.ensures c.len.ensures.increasing k a h
    (λ A B at many. c.move_last.ensures.listed p A B c.args.line at (many ∙ sym c.len.ensures.value))

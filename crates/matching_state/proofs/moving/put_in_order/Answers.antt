use Rattle.std.proofs.Common.{inr, refl, sym, ◌∙◌}
use Rattle.matching_state.proofs.Reorders.{line_in}
use Rattle.matching_state.proofs.moving.put_in_order.Goals as goal

pub returns-in-Some-clause-listed : goal.returns-in-Some-clause-listed
returns-in-Some-clause-listed g c = λ p K k n a h.
    line_in g.F.Field.scalars p c.args.set.now K c.in-Some.i c.args.line c.args.frame.now c.move_to.new.frame c.in-Some.ensures c.len.ensures.increasing k n a h
    (λ A B at many. c.move_to.ensures.listed p A B c.args.line at (many ∙ sym c.len.ensures.value))

pub returns-in_default-clause-listed : goal.returns-in_default-clause-listed
returns-in_default-clause-listed g c = λ p K k n a h. absurd (c.in_default.ensures ((a c.args.line).1 (inr refl)))

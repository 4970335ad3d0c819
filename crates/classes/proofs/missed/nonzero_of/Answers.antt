use Rattle.std.proofs.lemmas.Bool.{false≢true}
use Rattle.classes.proofs.MissedTies.{nonzero_first, nonzero_second}
use Rattle.classes.proofs.missed.nonzero_of.Goals as goal

pub returns-then-is_zero : goal.returns-then-is_zero
returns-then-is_zero g c =
    let S = g.F.Field.scalars in
    nonzero_second S c.args.problem.now c.args.line _ c.second.ensures.value
    (rw (c.first-first.ensures.value, c.first-first.ensures.long) at (c.is_zero.ensures.0 c.if-is_zero.true)) c.requires.some

pub returns-else-is_zero : goal.returns-else-is_zero
returns-else-is_zero g c =
    let S = g.F.Field.scalars in
    nonzero_first S c.args.problem.now c.args.line _ c.first-first.ensures.value
    (λ z. false≢true (rw c.if-is_zero.false at (c.is_zero.ensures.1 (rw c.first-first.ensures.long z))))

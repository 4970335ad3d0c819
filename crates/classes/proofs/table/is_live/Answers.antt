use Rattle.std.proofs.Common.{true, refl}
use Rattle.std.proofs.lemmas.Bool.{false≢true}
use Rattle.parity_lines.proofs.LinePairs.{line_at_vectors}
use Rattle.classes.proofs.Liveness.{live_by_first, live_by_tests}
use Rattle.classes.proofs.table.is_live.Goals as goal

pub returns-then-not-is_zero : goal.returns-then-not-is_zero
returns-then-not-is_zero g c L =
    let S = g.F.Field.scalars in
    let p = c.args.problem.now in
    let P = c.len-lines.ensures.problem in
    live_by_first S L p P c.args.line (line_at_vectors S p c.args.line P c.requires) true refl (λ z. false≢true (rw c.if-not-is_zero.true at
    (c.is_zero.ensures.1 (rw (c.first.ensures.value, c.first.ensures.long) z))))

pub returns : goal.returns
returns g c L =
    let S = g.F.Field.scalars in
    let p = c.args.problem.now in
    let P = c.len-lines.ensures.problem in
    live_by_tests S L p P c.args.line (line_at_vectors S p c.args.line P c.requires) c.is_zero-2.result
    (rw (c.first.ensures.value, c.first.ensures.long) at (c.is_zero.ensures.0 c.if-not-is_zero.false)) (
      (λ e. rw (c.second.ensures.value, c.second.ensures.long) at (c.is_zero-2.ensures.0 e)),
      (λ z. c.is_zero-2.ensures.1 (rw (c.second.ensures.value, c.second.ensures.long) z)),
    )

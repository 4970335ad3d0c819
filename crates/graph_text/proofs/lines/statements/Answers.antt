use Rattle.std.proofs.Common.{ℕ, List, [], ◌∷◌, length, subst}
use Rattle.line_lexer.specs.Lines.{lines}
use Rattle.text_forms.specs.Forms.{line}
use Rattle.text_forms.specs.Gives.{Fails}
use Rattle.graph_text.specs.Texts.{Begun, statement}
use Rattle.graph_text.proofs.Each.{each_stops}
use Rattle.graph_text.proofs.lines.statements.Goals as goal

pub returns-in-Err-clause-gives : goal.returns-in-Err-clause-gives
returns-in-Err-clause-gives c =
    let so_far : Begun = record { graph = c.loop-more.graph; classes = c.loop-more.classes } in
    let taken = c.in-Err.ensures.takes in
    let fails = subst (λ (bs : List ℕ). Fails c.in-Err.refusal (line (statement c.args.most so_far) (length (lines bs)) (taken.0 ∷ []))) c.loop-more.invariant.bytes taken.3 in
    each_stops (λ s. line (statement c.args.most s)) so_far c.in-Err.refusal (length (lines c.args.lexer.now.bytes)) taken.0 c.loop-more.lexer.ahead taken.1 _ taken.2 fails c.loop-more.invariant.rest

use Rattle.std.proofs.Common.{◌≡◌, ℕ, List, [], ◌∷◌, subst, ◌∙◌}
use Rattle.line_lexer.specs.Calls.{text_at}
use Rattle.text_forms.specs.Gives.{Fails}
use Rattle.graph_text.specs.Texts.{free_vertex}
use Rattle.graph_text.proofs.Each.{each_stops}
use Rattle.graph_text.proofs.names.other_vertices.Goals as goal

pub returns-in-Err-clause-gives : goal.returns-in-Err-clause-gives
returns-in-Err-clause-gives c =
    let on_line : c.in-Some.token.line ≡ c.args.lexer.now.line = c.in-Some.ensures.word.2.on_line ∙ c.loop-token.invariant.same.line in
    let at_name = subst (λ (bs : List ℕ). Fails c.in-Err.refusal (free_vertex c.args.most c.loop-token.graph c.in-Some.token.line (text_at bs c.in-Some.token ∷ []))) c.in-Some.ensures.line.bytes (c.in-Err.ensures.gives []) in
    let fails = subst (λ (k : ℕ). Fails c.in-Err.refusal (free_vertex c.args.most c.loop-token.graph k (text_at c.loop-token.lexer.bytes c.in-Some.token ∷ []))) on_line at_name in
    each_stops (free_vertex c.args.most) c.loop-token.graph c.in-Err.refusal c.args.lexer.now.line (text_at c.loop-token.lexer.bytes c.in-Some.token) c.loop-token.lexer.words c.next_word.new.self.words _
    c.in-Some.ensures.word.0 fails c.loop-token.invariant.rest

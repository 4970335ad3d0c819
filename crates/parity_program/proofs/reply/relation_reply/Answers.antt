use Rattle.std.proofs.Common.{◌≡◌, ℕ, List, [], ◌∷◌, ◌++◌, map, ap, sym, ◌∙◌}
use Rattle.std.specs.Prelude.{codes}
use Rattle.std.specs.Fmt.{decimal}
use Rattle.std.specs.List.{flat_map}
use Rattle.std.proofs.lemmas.List.{append-nil}
use Rattle.line_lexer.specs.Words.{line_text, spelled}
use Rattle.text_forms.proofs.Pieces.{both, line_pieces}
use Rattle.parity_program.proofs.reply.relation_reply.Goals as goal
use Rattle.parity_program.specs.Improvements.{improvement_lines}
use Rattle.parity_program.specs.Improvements.Improvement.{dependent}
use Rattle.parity_program.specs.Replies.{ReplyText}
use Rattle.parity_program.specs.declared.status.Status.TheVariants.{No}

-- what is put, one piece after the other, are the lines of the relation
relation_text : (cs : List ℕ) → codes "no dependent\nrelation" ++ (flat_map (λ w. 32 ∷ w) (map decimal cs) ++ 10 ∷ [])
    ≡ spelled (improvement_lines (dependent cs))
unfolding spelled line_text
relation_text cs =
    ap (λ (t : List ℕ). codes "no dependent\n" ++ t)
    (line_pieces (codes "relation") (map decimal cs) ∙ sym (append-nil (line_text (codes "relation" ∷ map decimal cs))))

pub returns : goal.returns
returns g c =
    let cs = map g.F.Field.number c.as_slice.result.now in
    let started = rw c.new-text.ensures.items at c.in_ok-extend_from_slice.ensures.items in
    let rest = both _ _ c.push.new.self.items (flat_map (λ w. 32 ∷ w) (map decimal cs))
    (10 ∷ []) c.in_ok-put_elements.ensures c.in_ok-push.ensures.items in
    ap (λ (t : List ℕ). let reply : ReplyText = record { text = t; status = No } in reply)
    (both [] _ c.push.new.self.items (codes "no dependent\nrelation") _ started rest ∙ relation_text cs
    ∙ ap (λ xs. spelled (improvement_lines (dependent xs))) c.as_slice.ensures.value)

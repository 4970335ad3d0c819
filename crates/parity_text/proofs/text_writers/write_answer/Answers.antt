use Rattle.std.proofs.Common.{◌∷◌, ◌++◌, map, length}
use Rattle.std.specs.Prelude.{codes}
use Rattle.std.specs.Fmt.{decimal}
use Rattle.line_lexer.specs.Words.{line_text, spelled}
use Rattle.parity_text.specs.Spelled.{set_lines, position_words}
use Rattle.text_forms.specs.Spelling.{counted_words}
use Rattle.parity_text.specs.Shown.{answer_value}
use Rattle.text_forms.proofs.Pieces.{first_stops, rest_stops, refused, then_rest, third_is_last}
use Rattle.parity_text.proofs.TextPieces.{answer_pieces}
use Rattle.parity_text.proofs.text_writers.write_answer.Goals as goal

pub returns-in_err-put_count : goal.returns-in_err-put_count
returns-in_err-put_count g c =
    let a = answer_value c.args.answer.now in
    refused c.from_residual.result c.args.out.now.items _ _ _ (answer_pieces a) c.from_residual.ensures.0
    (first_stops _ _ _ _ c.in_err-put_count.ensures)

pub returns-in_err-put_set : goal.returns-in_err-put_set
returns-in_err-put_set g c =
    let a = answer_value c.args.answer.now in
    refused c.from_residual-in_err-put_set.result c.args.out.now.items _ _ _ (answer_pieces a) c.from_residual-in_err-put_set.ensures.0
    (rest_stops _ _ _ _ _ c.in_ok-put_count.ensures (first_stops _ _ _ _ c.in_err-put_set.ensures))

pub returns-in_err-put_count-2 : goal.returns-in_err-put_count-2
returns-in_err-put_count-2 g c =
    let a = answer_value c.args.answer.now in
    refused c.from_residual-in_err-put_count-2.result c.args.out.now.items _ _ _
    (answer_pieces a) c.from_residual-in_err-put_count-2.ensures.0
    (rest_stops _ _ _ _ _ c.in_ok-put_count.ensures
    (rest_stops _ _ _ _ _ c.in_ok-put_set.ensures (first_stops _ _ _ _ (rw c.len.ensures.value at c.in_err-put_count-2.ensures))))

pub returns-in_err-put_vectors : goal.returns-in_err-put_vectors
returns-in_err-put_vectors g c =
    let a = answer_value c.args.answer.now in
    refused c.from_residual-in_err-put_vectors.result c.args.out.now.items _ _ _
    (answer_pieces a) c.from_residual-in_err-put_vectors.ensures.0
    (rest_stops _ _ _ _ _ c.in_ok-put_count.ensures
    (rest_stops _ _ _ _ _ c.in_ok-put_set.ensures
    (rest_stops _ _ _ _ _ (rw c.len.ensures.value at c.in_ok-put_count-2.ensures) (first_stops _ _ _ _ c.in_err-put_vectors.ensures))))

pub returns-in_err-put_count-3 : goal.returns-in_err-put_count-3
returns-in_err-put_count-3 g c =
    let a = answer_value c.args.answer.now in
    refused c.from_residual-in_err-put_count-3.result c.args.out.now.items _ _ _
    (answer_pieces a) c.from_residual-in_err-put_count-3.ensures.0
    (rest_stops _ _ _ _ _ c.in_ok-put_count.ensures
    (rest_stops _ _ _ _ _ c.in_ok-put_set.ensures
    (rest_stops _ _ _ _ _ (rw c.len.ensures.value at c.in_ok-put_count-2.ensures)
    (rest_stops _ _ _ _ _ c.in_ok-put_vectors.ensures
    (first_stops _ _ _ _ (rw c.len-2.ensures.value at c.in_err-put_count-3.ensures))))))

pub returns-in_err-put_parts : goal.returns-in_err-put_parts
returns-in_err-put_parts g c =
    let a = answer_value c.args.answer.now in
    refused c.from_residual-in_err-put_parts.result c.args.out.now.items _ _ _ (answer_pieces a) c.from_residual-in_err-put_parts.ensures.0
    (rest_stops _ _ _ _ _ c.in_ok-put_count.ensures
    (rest_stops _ _ _ _ _ c.in_ok-put_set.ensures
    (rest_stops _ _ _ _ _ (rw c.len.ensures.value at c.in_ok-put_count-2.ensures)
    (rest_stops _ _ _ _ _ c.in_ok-put_vectors.ensures
    (rest_stops _ _ _ _ _ (rw c.len-2.ensures.value at c.in_ok-put_count-3.ensures)
    (first_stops _ _ _ _ c.in_err-put_parts.ensures))))))

pub returns : goal.returns
returns g c =
    let a = answer_value c.args.answer.now in
    third_is_last c.args.out.now.items c.put_count.new.out.items c.put_set.new.out.items c.put.new.out.items
    (line_text (counted_words (codes "answer") 1)) (spelled (set_lines a.set))
    ((line_text (counted_words (codes "kernel") (length a.kernel.rows)))
    ++ ((spelled (map (λ v. codes "vector" ∷ map decimal v) a.kernel.rows))
    ++ ((line_text (counted_words (codes "parts") (length a.parts)))
    ++ ((spelled (map (λ part. codes "part" ∷ position_words part) a.parts)) ++ ((codes "end\n")))))) _ c.put.result
    (answer_pieces a) c.in_ok-put_count.ensures c.in_ok-put_set.ensures
    (then_rest c.put_set.new.out.items c.put_count-2.new.out.items c.put.new.out.items
    (line_text (counted_words (codes "kernel") (length a.kernel.rows)))
    ((spelled (map (λ v. codes "vector" ∷ map decimal v) a.kernel.rows))
    ++ ((line_text (counted_words (codes "parts") (length a.parts)))
    ++ ((spelled (map (λ part. codes "part" ∷ position_words part) a.parts)) ++ ((codes "end\n"))))) c.put.result
    (rw c.len.ensures.value at c.in_ok-put_count-2.ensures)
    (then_rest c.put_count-2.new.out.items c.put_vectors.new.out.items c.put.new.out.items
    (spelled (map (λ v. codes "vector" ∷ map decimal v) a.kernel.rows))
    ((line_text (counted_words (codes "parts") (length a.parts)))
    ++ ((spelled (map (λ part. codes "part" ∷ position_words part) a.parts))
    ++ ((codes "end\n")))) c.put.result c.in_ok-put_vectors.ensures
    (then_rest c.put_vectors.new.out.items c.put_count-3.new.out.items c.put.new.out.items
    (line_text (counted_words (codes "parts") (length a.parts)))
    ((spelled (map (λ part. codes "part" ∷ position_words part) a.parts)) ++ ((codes "end\n"))) c.put.result
    (rw c.len-2.ensures.value at c.in_ok-put_count-3.ensures)
    (then_rest c.put_count-3.new.out.items c.put_parts.new.out.items c.put.new.out.items
    (spelled (map (λ part. codes "part" ∷ position_words part) a.parts)) ((codes "end\n")) c.put.result c.in_ok-put_parts.ensures
    (c.put.ensures)))))

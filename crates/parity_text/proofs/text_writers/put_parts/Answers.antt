use Rattle.std.proofs.Common.{◌∷◌, ◌++◌, ◌<◌, ◌≤◌, [], map, ap, ◌∙◌, length, arith}
use Rattle.std.specs.Prelude.{codes}
use Rattle.parity_text.specs.Spelled.{position_words}
use Rattle.std.proofs.lemmas.List.{length-map}
use Rattle.line_lexer.specs.Words.{line_text}
use Rattle.text_forms.proofs.Pieces.{each_goes_on, each_stops, each_is_done, piece_at, refused, spelled_is}
use Rattle.parity_text.proofs.text_writers.put_parts.Goals as goal

pub returns-in_err-put_listed : goal.returns-in_err-put_listed
returns-in_err-put_listed c =
    let xs = c.args.parts.now in
    let within : c.loop-i.i < length xs = omega (arith, c.loop-i-test.true, c.len-i-end.ensures.value) in
    let lt : c.loop-i.i < length (map (λ part. codes "part" ∷ position_words part) xs) = rw
    (length-map xs (λ part. codes "part" ∷ position_words part)) within in
    let at = piece_at line_text (λ part. codes "part" ∷ position_words part) xs c.loop-i.i [] [] c.at.result.now within c.at.ensures in
    refused c.from_residual.result c.args.out.now.items _ _ _
    (spelled_is (map (λ part. codes "part" ∷ position_words part) xs)) c.from_residual.ensures.0
    (each_stops line_text (map (λ part. codes "part" ∷ position_words part) xs) c.loop-i.i [] _ _ _ _ lt at c.loop-i.invariant
    c.in_err-put_listed.ensures)

pub loop-i-preserved : goal.loop-i-preserved
loop-i-preserved c =
    let xs = c.args.parts.now in
    let within : c.loop-i.i < length xs = omega (arith, c.loop-i-test.true, c.len-i-end.ensures.value) in
    let lt : c.loop-i.i < length (map (λ part. codes "part" ∷ position_words part) xs) = rw
    (length-map xs (λ part. codes "part" ∷ position_words part)) within in
    let at = piece_at line_text (λ part. codes "part" ∷ position_words part) xs c.loop-i.i [] [] c.at.result.now within c.at.ensures in
    each_goes_on line_text (map (λ part. codes "part" ∷ position_words part) xs) c.loop-i.i [] _ _ _ _ lt at c.loop-i.invariant
    c.in_ok-put_listed.ensures

pub returns : goal.returns
returns c =
    let xs = c.args.parts.now in
    let all : length xs ≤ c.loop-i.i = omega (arith, c.loop-i-test.false, c.len-i-end.ensures.value) in
    let done : length (map (λ part. codes "part" ∷ position_words part) xs) ≤ c.loop-i.i = rw
    (length-map xs (λ part. codes "part" ∷ position_words part)) all in
    each_is_done line_text (map (λ part. codes "part" ∷ position_words part) xs) c.loop-i.i _ _ done c.loop-i.invariant
    ∙ ap (λ t. c.args.out.now.items ++ t) (spelled_is (map (λ part. codes "part" ∷ position_words part) xs))

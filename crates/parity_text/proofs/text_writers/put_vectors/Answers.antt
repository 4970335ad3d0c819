use Rattle.std.proofs.Common.{◌∷◌, ◌++◌, ◌<◌, ◌≤◌, [], map, ap, ◌∙◌, length, arith}
use Rattle.std.specs.Prelude.{codes}
use Rattle.std.specs.Fmt.{decimal}
use Rattle.std.proofs.lemmas.List.{length-map}
use Rattle.line_lexer.specs.Words.{line_text}
use Rattle.text_forms.proofs.Pieces.{each_goes_on, each_stops, each_is_done, piece_at, refused, spelled_is}
use Rattle.parity_text.proofs.text_writers.put_vectors.Goals as goal

pub returns-in_err-put_vector : goal.returns-in_err-put_vector
returns-in_err-put_vector g c =
    let xs = c.args.kernel.now.rows in
    let within : c.loop-i.i < length xs = omega (arith, c.loop-i-test.true, c.len-i-end.ensures.value) in
    let lt : c.loop-i.i < length (map (λ v. codes "vector" ∷ map decimal v) xs) = rw
    (length-map xs (λ v. codes "vector" ∷ map decimal v)) within in
    let at = piece_at line_text (λ v. codes "vector" ∷ map decimal v) xs c.loop-i.i [] []
    (map g.F.Field.number c.row.result.now) within c.row.ensures.value in
    refused c.from_residual.result c.args.out.now.items _ _ _
    (spelled_is (map (λ v. codes "vector" ∷ map decimal v) xs)) c.from_residual.ensures.0
    (each_stops line_text (map (λ v. codes "vector" ∷ map decimal v) xs) c.loop-i.i [] _ _ _ _ lt at c.loop-i.invariant
    c.in_err-put_vector.ensures)

pub loop-i-preserved : goal.loop-i-preserved
loop-i-preserved g c =
    let xs = c.args.kernel.now.rows in
    let within : c.loop-i.i < length xs = omega (arith, c.loop-i-test.true, c.len-i-end.ensures.value) in
    let lt : c.loop-i.i < length (map (λ v. codes "vector" ∷ map decimal v) xs) = rw
    (length-map xs (λ v. codes "vector" ∷ map decimal v)) within in
    let at = piece_at line_text (λ v. codes "vector" ∷ map decimal v) xs c.loop-i.i [] []
    (map g.F.Field.number c.row.result.now) within c.row.ensures.value in
    each_goes_on line_text (map (λ v. codes "vector" ∷ map decimal v) xs) c.loop-i.i [] _ _ _ _ lt at c.loop-i.invariant
    c.in_ok-put_vector.ensures

pub returns : goal.returns
returns g c =
    let xs = c.args.kernel.now.rows in
    let all : length xs ≤ c.loop-i.i = omega (arith, c.loop-i-test.false, c.len-i-end.ensures.value) in
    let done : length (map (λ v. codes "vector" ∷ map decimal v) xs) ≤ c.loop-i.i = rw
    (length-map xs (λ v. codes "vector" ∷ map decimal v)) all in
    each_is_done line_text (map (λ v. codes "vector" ∷ map decimal v) xs) c.loop-i.i _ _ done c.loop-i.invariant
    ∙ ap (λ t. c.args.out.now.items ++ t) (spelled_is (map (λ v. codes "vector" ∷ map decimal v) xs))

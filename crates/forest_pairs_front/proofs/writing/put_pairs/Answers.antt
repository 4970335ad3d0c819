use Rattle.std.proofs.Common.{◌++◌, ◌<◌, ◌≤◌, [], map, ap, ◌∙◌, length, arith}
use Rattle.std.proofs.lemmas.List.{length-map}
use Rattle.line_lexer.specs.Words.{line_text}
use Rattle.forest_pairs_front.specs.Spelled.{pair_words}
use Rattle.text_forms.proofs.Pieces.{each_goes_on, each_stops, each_is_done, piece_at, refused, spelled_is}
use Rattle.forest_pairs_front.proofs.writing.put_pairs.Goals as goal

pub returns-in_err-put_pair : goal.returns-in_err-put_pair
returns-in_err-put_pair c =
    let xs = c.args.set.now in
    let within : c.loop-i.i < length xs = omega (arith, c.loop-i-test.true, c.len-i-end.ensures.value) in
    let lt : c.loop-i.i < length (map pair_words xs) = rw (length-map xs pair_words) within in
    let at = piece_at line_text pair_words xs c.loop-i.i 0 [] c.at.result within c.at.ensures in
    refused c.from_residual.result c.args.out.now.items _ _ _ (spelled_is (map pair_words xs)) c.from_residual.ensures.0
    (each_stops line_text (map pair_words xs) c.loop-i.i [] _ _ _ _ lt at c.loop-i.invariant c.in_err-put_pair.ensures)

pub loop-i-preserved : goal.loop-i-preserved
loop-i-preserved c =
    let xs = c.args.set.now in
    let within : c.loop-i.i < length xs = omega (arith, c.loop-i-test.true, c.len-i-end.ensures.value) in
    let lt : c.loop-i.i < length (map pair_words xs) = rw (length-map xs pair_words) within in
    let at = piece_at line_text pair_words xs c.loop-i.i 0 [] c.at.result within c.at.ensures in
    each_goes_on line_text (map pair_words xs) c.loop-i.i [] _ _ _ _ lt at c.loop-i.invariant c.in_ok-put_pair.ensures

pub returns : goal.returns
returns c =
    let xs = c.args.set.now in
    let all : length xs ≤ c.loop-i.i = omega (arith, c.loop-i-test.false, c.len-i-end.ensures.value) in
    let done : length (map pair_words xs) ≤ c.loop-i.i = rw (length-map xs pair_words) all in
    each_is_done line_text (map pair_words xs) c.loop-i.i _ _ done c.loop-i.invariant
    ∙ ap (λ t. c.args.out.now.items ++ t) (spelled_is (map pair_words xs))

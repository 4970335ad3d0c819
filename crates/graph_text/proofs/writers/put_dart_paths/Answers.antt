use Rattle.std.proofs.Common.{◌++◌, ◌<◌, ◌≤◌, [], map, ap, ◌∙◌, length, arith}
use Rattle.std.proofs.lemmas.List.{length-map}
use Rattle.line_lexer.specs.Words.{line_text}
use Rattle.graph_text.specs.Spelled.{dart_path_words}
use Rattle.text_forms.proofs.Pieces.{each_goes_on, each_stops, each_is_done, piece_at, refused, spelled_is}
use Rattle.graph_text.proofs.writers.put_dart_paths.Goals as goal

pub returns-in_err-put_dart_path : goal.returns-in_err-put_dart_path
returns-in_err-put_dart_path c =
    let words = dart_path_words in
    let xs = c.args.paths.now in
    let within : c.loop-i.i < length xs = omega (arith, c.loop-i-test.true, c.len-i-end.ensures) in
    let lt : c.loop-i.i < length (map words xs) = rw (length-map xs words) within in
    let at = piece_at line_text words xs c.loop-i.i [] [] c.at.result.now within c.at.ensures in
    refused c.from_residual.result c.args.out.now.items _ _ _ (spelled_is (map words xs)) c.from_residual.ensures.0
    (each_stops line_text (map words xs) c.loop-i.i [] _ _ _ _ lt at c.loop-i.invariant c.in_err-put_dart_path.ensures)

pub loop-i-preserved : goal.loop-i-preserved
loop-i-preserved c =
    let words = dart_path_words in
    let xs = c.args.paths.now in
    let within : c.loop-i.i < length xs = omega (arith, c.loop-i-test.true, c.len-i-end.ensures) in
    let lt : c.loop-i.i < length (map words xs) = rw (length-map xs words) within in
    let at = piece_at line_text words xs c.loop-i.i [] [] c.at.result.now within c.at.ensures in
    each_goes_on line_text (map words xs) c.loop-i.i [] _ _ _ _ lt at c.loop-i.invariant c.in_ok-put_dart_path.ensures

pub returns : goal.returns
returns c =
    let words = dart_path_words in
    let xs = c.args.paths.now in
    let all : length xs ≤ c.loop-i.i = omega (arith, c.loop-i-test.false, c.len-i-end.ensures) in
    let done : length (map words xs) ≤ c.loop-i.i = rw (length-map xs words) all in
    each_is_done line_text (map words xs) c.loop-i.i _ _ done c.loop-i.invariant ∙ ap (λ t. c.args.out.now.items ++ t) (spelled_is (map words xs))

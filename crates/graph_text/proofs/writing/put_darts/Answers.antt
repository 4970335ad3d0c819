use Rattle.std.proofs.Common.{◌∷◌, ◌<◌, [], map, get_or, refl, length, arith}
use Rattle.std.proofs.lemmas.List.{length-map}
use Rattle.graph_text.specs.Spelled.{dart_word}
use Rattle.text_forms.proofs.Pieces.{each_goes_on, each_stops, piece_at, refused}
use Rattle.graph_text.proofs.writing.put_darts.Goals as goal

pub returns-in_err-put_dart : goal.returns-in_err-put_dart
returns-in_err-put_dart c =
    let darts = c.args.darts.now in
    let within : c.loop-i.i < length darts = omega (arith, c.loop-i-test.true) in
    let lt : c.loop-i.i < length (map dart_word darts) = rw (length-map darts dart_word) within in
    let at = piece_at (λ w. 32 ∷ w) dart_word darts c.loop-i.i 0 [] (get_or darts c.loop-i.i 0) within refl in
    refused c.from_residual.result c.args.out.now.items _ _ _ refl c.from_residual.ensures.0
    (each_stops (λ w. 32 ∷ w) (map dart_word darts) c.loop-i.i [] _ _ _ _ lt at c.loop-i.invariant c.in_err-put_dart.ensures)

pub loop-i-preserved : goal.loop-i-preserved
loop-i-preserved c =
    let darts = c.args.darts.now in
    let within : c.loop-i.i < length darts = omega (arith, c.loop-i-test.true) in
    let lt : c.loop-i.i < length (map dart_word darts) = rw (length-map darts dart_word) within in
    let at = piece_at (λ w. 32 ∷ w) dart_word darts c.loop-i.i 0 [] (get_or darts c.loop-i.i 0) within refl in
    each_goes_on (λ w. 32 ∷ w) (map dart_word darts) c.loop-i.i [] _ _ _ _ lt at c.loop-i.invariant c.in_ok-put_dart.ensures

use Rattle.std.proofs.Common.{◌∷◌, ◌+◌, ◌<◌, [], refl, length, arith}
use Rattle.std.specs.Fmt.{decimal}
use Rattle.std.proofs.lemmas.List.{length-map}
use Rattle.parity_text.specs.Spelled.{position_words}
use Rattle.text_forms.proofs.Pieces.{each_goes_on, each_stops, piece_at, refused}
use Rattle.parity_text.proofs.line_writers.put_positions.Goals as goal

pub returns-in_err-put_number : goal.returns-in_err-put_number
returns-in_err-put_number c =
    let within : c.loop-i.i < length c.args.set.now = omega (arith, c.loop-i-test.true, c.len-i-end.ensures.value) in
    let lt : c.loop-i.i < length (position_words c.args.set.now) = rw (length-map c.args.set.now (λ p. decimal (p + 1))) within in
    let at = piece_at (λ w. 32 ∷ w) (λ p. decimal (p + 1)) c.args.set.now c.loop-i.i 0 [] c.at.result within c.at.ensures in
    refused c.from_residual.result c.args.out.now.items _ _ _ refl c.from_residual.ensures.0
    (each_stops (λ w. 32 ∷ w) (position_words c.args.set.now) c.loop-i.i [] _ _ _ _ lt at c.loop-i.invariant c.in_err-put_number.ensures)

pub loop-i-preserved : goal.loop-i-preserved
loop-i-preserved c =
    let within : c.loop-i.i < length c.args.set.now = omega (arith, c.loop-i-test.true, c.len-i-end.ensures.value) in
    let lt : c.loop-i.i < length (position_words c.args.set.now) = rw (length-map c.args.set.now (λ p. decimal (p + 1))) within in
    let at = piece_at (λ w. 32 ∷ w) (λ p. decimal (p + 1)) c.args.set.now c.loop-i.i 0 [] c.at.result within c.at.ensures in
    each_goes_on (λ w. 32 ∷ w) (position_words c.args.set.now) c.loop-i.i [] _ _ _ _ lt at c.loop-i.invariant c.in_ok-put_number.ensures

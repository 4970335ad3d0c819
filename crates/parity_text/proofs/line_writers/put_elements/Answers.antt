use Rattle.std.proofs.Common.{◌∷◌, [], map, ◌∙◌, refl, length, ◌<◌}
use Rattle.std.specs.Fmt.{decimal}
use Rattle.std.proofs.lemmas.List.{length-map}
use Rattle.text_forms.proofs.Pieces.{each_goes_on, each_stops, refused, number_piece}
use Rattle.parity_text.proofs.line_writers.put_elements.Goals as goal

pub returns-in_err-put_number : goal.returns-in_err-put_number
returns-in_err-put_number g c =
    let f = g.F.Field.number in
    let within = c.loop-x-test.true in
    let lt : c.loop-x.x-index < length (map decimal (map f c.args.v.now)) = rw
    (length-map (map f c.args.v.now) decimal, length-map c.args.v.now f) within in
    refused c.from_residual.result c.args.out.now.items _ _ _ refl c.from_residual.ensures.0
    (each_stops (λ w. 32 ∷ w) (map decimal (map f c.args.v.now)) c.loop-x.x-index [] _ _ _ _ lt
    (number_piece f c.args.v.now c.loop-x.x-index c.x-item.result c.from.result within c.x-item.is
    (c.from.ensures ∙ c.number.ensures)) c.loop-x.invariant c.in_err-put_number.ensures)

pub loop-x-preserved : goal.loop-x-preserved
loop-x-preserved g c =
    let f = g.F.Field.number in
    let within = c.loop-x-test.true in
    let lt : c.loop-x.x-index < length (map decimal (map f c.args.v.now)) = rw
    (length-map (map f c.args.v.now) decimal, length-map c.args.v.now f) within in
    each_goes_on (λ w. 32 ∷ w) (map decimal (map f c.args.v.now)) c.loop-x.x-index [] _ _ _ _ lt
    (number_piece f c.args.v.now c.loop-x.x-index c.x-item.result c.from.result within c.x-item.is
    (c.from.ensures ∙ c.number.ensures)) c.loop-x.invariant c.in_ok-put_number.ensures

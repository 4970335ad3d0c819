use Rattle.std.proofs.Common.{◌∷◌, ◌<◌, [], map, refl, length, arith}
use Rattle.std.proofs.lemmas.List.{length-map}
use Rattle.graph_text.specs.Spelled.{name_at}
use Rattle.text_forms.proofs.Pieces.{each_goes_on, each_stops, piece_at, refused}
use Rattle.graph_text.proofs.writing.put_names.Goals as goal

pub returns-in_err-put_name : goal.returns-in_err-put_name
returns-in_err-put_name c =
    let names = name_at c.args.graph.now in
    let within : c.loop-i.i < length c.args.vertices.now = omega (arith, c.loop-i-test.true, c.len-i-end.ensures) in
    let lt : c.loop-i.i < length (map names c.args.vertices.now) = rw (length-map c.args.vertices.now names) within in
    let at = piece_at (λ w. 32 ∷ w) names c.args.vertices.now c.loop-i.i 0 [] c.at.result within c.at.ensures in
    refused c.from_residual.result c.args.out.now.items _ _ _ refl c.from_residual.ensures.0
    (each_stops (λ w. 32 ∷ w) (map names c.args.vertices.now) c.loop-i.i [] _ _ _ _ lt at c.loop-i.invariant c.in_err-put_name.ensures)

pub loop-i-preserved : goal.loop-i-preserved
loop-i-preserved c =
    let names = name_at c.args.graph.now in
    let within : c.loop-i.i < length c.args.vertices.now = omega (arith, c.loop-i-test.true, c.len-i-end.ensures) in
    let lt : c.loop-i.i < length (map names c.args.vertices.now) = rw (length-map c.args.vertices.now names) within in
    let at = piece_at (λ w. 32 ∷ w) names c.args.vertices.now c.loop-i.i 0 [] c.at.result within c.at.ensures in
    each_goes_on (λ w. 32 ∷ w) (map names c.args.vertices.now) c.loop-i.i [] _ _ _ _ lt at c.loop-i.invariant c.in_ok-put_name.ensures

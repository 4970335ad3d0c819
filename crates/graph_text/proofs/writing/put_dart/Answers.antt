use Rattle.std.proofs.Common.{◌+◌, ◌/◌, ◌∷◌, ℕ, List}
use Rattle.std.specs.Prelude.{codes}
use Rattle.std.specs.Fmt.{decimal}
use Rattle.graph_text.proofs.Pieces.{dart_pieces, even_pieces, odd_pieces}
use Rattle.text_forms.proofs.Pieces.{first_stops, refused, second_is_last}
use Rattle.graph_text.proofs.writing.put_dart.Goals as goal

pub returns-in_err-put_number : goal.returns-in_err-put_number
returns-in_err-put_number c = refused c.from_residual.result c.args.out.now.items _ _ _ (dart_pieces c.args.dart) c.from_residual.ensures.0
    (first_stops _ _ _ _ c.in_err-put_number.ensures)

pub returns-then-dart-eq0 : goal.returns-then-dart-eq0
returns-then-dart-eq0 c =
    let number : List ℕ = 32 ∷ decimal (c.args.dart / 2 + 1) in
    second_is_last c.args.out.now.items c.put_number.new.out.items c.put.new.out.items number (codes "+") _ c.put.result
    (even_pieces c.args.dart c.if-dart-eq0.true) c.in_ok-put_number.ensures c.put.ensures

pub returns-else-dart-eq0 : goal.returns-else-dart-eq0
returns-else-dart-eq0 c =
    let number : List ℕ = 32 ∷ decimal (c.args.dart / 2 + 1) in
    second_is_last c.args.out.now.items c.put_number.new.out.items c.put-else-dart-eq0.new.out.items number (codes "-") _
    c.put-else-dart-eq0.result
    (odd_pieces c.args.dart c.if-dart-eq0.false) c.in_ok-put_number.ensures c.put-else-dart-eq0.ensures

use Rattle.std.proofs.Common.{[], ◌∷◌, map}
use Rattle.std.specs.Prelude.{codes}
use Rattle.std.specs.List.{flat_map}
use Rattle.graph_text.specs.Spelled.{dart_word}
use Rattle.text_forms.proofs.Pieces.{first_stops, rest_stops, refused, third_is_last, line_pieces}
use Rattle.graph_text.proofs.writing.put_dart_path.Goals as goal

pub returns-in_err-put : goal.returns-in_err-put
returns-in_err-put c = refused c.from_residual.result c.args.out.now.items _ _ _ (line_pieces (codes "path") (map dart_word c.args.darts.now)) c.from_residual.ensures.0 (first_stops _ _ _ _ c.in_err-put.ensures)

pub returns-in_err-put_darts : goal.returns-in_err-put_darts
returns-in_err-put_darts c =
    refused c.from_residual-in_err-put_darts.result c.args.out.now.items _ _ _ (line_pieces (codes "path") (map dart_word c.args.darts.now)) c.from_residual-in_err-put_darts.ensures.0
    (rest_stops _ _ _ _ _ c.in_ok-put.ensures (first_stops _ _ _ _ c.in_err-put_darts.ensures))

pub returns : goal.returns
returns c =
    third_is_last c.args.out.now.items c.put.new.out.items c.put_darts.new.out.items c.put-2.new.out.items (codes "path") (flat_map (λ w. 32 ∷ w) (map dart_word c.args.darts.now)) (10 ∷ []) _ c.put-2.result
    (line_pieces (codes "path") (map dart_word c.args.darts.now)) c.in_ok-put.ensures c.in_ok-put_darts.ensures c.put-2.ensures

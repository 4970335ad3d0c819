use Rattle.std.proofs.Common.{[], ◌∷◌, ◌++◌, map}
use Rattle.std.specs.Prelude.{codes}
use Rattle.std.specs.List.{flat_map}
use Rattle.graph_text.specs.Spelled.{dart_word}
use Rattle.graph_text.proofs.Pieces.{at_pieces}
use Rattle.text_forms.proofs.Pieces.{first_stops, rest_stops, refused, then_rest, third_is_last}
use Rattle.graph_text.proofs.writing.put_darts_at.Goals as goal

pub returns-in_err-put : goal.returns-in_err-put
returns-in_err-put c = refused c.from_residual.result c.args.out.now.items _ _ _ (at_pieces c.args.name.now c.args.darts.now)
    c.from_residual.ensures.0
    (first_stops _ _ _ _ c.in_err-put.ensures)

pub returns-in_err-put-2 : goal.returns-in_err-put-2
returns-in_err-put-2 c =
    refused c.from_residual-in_err-put-2.result c.args.out.now.items _ _ _ (at_pieces c.args.name.now c.args.darts.now)
    c.from_residual-in_err-put-2.ensures.0
    (rest_stops _ _ _ _ _ c.in_ok-put.ensures (first_stops _ _ _ _ c.in_err-put-2.ensures))

pub returns-in_err-put_darts : goal.returns-in_err-put_darts
returns-in_err-put_darts c =
    refused c.from_residual-in_err-put_darts.result c.args.out.now.items _ _ _ (at_pieces c.args.name.now c.args.darts.now)
    c.from_residual-in_err-put_darts.ensures.0
    (rest_stops _ _ _ _ _ c.in_ok-put.ensures (rest_stops _ _ _ _ _ c.in_ok-put-2.ensures (first_stops _ _ _ _ c.in_err-put_darts.ensures)))

pub returns : goal.returns
returns c =
    let darts = flat_map (λ w. 32 ∷ w) (map dart_word c.args.darts.now) in
    third_is_last c.args.out.now.items c.put.new.out.items c.put-2.new.out.items c.put-3.new.out.items
    (codes "at ") c.args.name.now (darts ++ 10 ∷ []) _ c.put-3.result (at_pieces c.args.name.now c.args.darts.now) c.in_ok-put.ensures c.in_ok-put-2.ensures
    (then_rest c.put-2.new.out.items c.put_darts.new.out.items c.put-3.new.out.items darts (10 ∷ []) c.put-3.result
    c.in_ok-put_darts.ensures c.put-3.ensures)

use Rattle.std.proofs.Common.{[], ◌∷◌}
use Rattle.std.specs.List.{flat_map}
use Rattle.parity_text.specs.Spelled.{position_words}
use Rattle.text_forms.proofs.Pieces.{first_stops, rest_stops, refused, third_is_last, line_pieces}
use Rattle.parity_text.proofs.line_writers.put_listed.Goals as goal

pub returns-in_err-put : goal.returns-in_err-put
returns-in_err-put c = refused c.from_residual.result c.args.out.now.items _ _ _
    (line_pieces c.args.name.now (position_words c.args.set.now)) c.from_residual.ensures.0 (first_stops _ _ _ _ c.in_err-put.ensures)

pub returns-in_err-put_positions : goal.returns-in_err-put_positions
returns-in_err-put_positions c =
    refused c.from_residual-in_err-put_positions.result c.args.out.now.items _ _ _
    (line_pieces c.args.name.now (position_words c.args.set.now)) c.from_residual-in_err-put_positions.ensures.0
    (rest_stops _ _ _ _ _ c.in_ok-put.ensures (first_stops _ _ _ _ c.in_err-put_positions.ensures))

pub returns : goal.returns
returns c =
    third_is_last c.args.out.now.items c.put.new.out.items c.put_positions.new.out.items c.put-2.new.out.items c.args.name.now
    (flat_map (λ w. 32 ∷ w) (position_words c.args.set.now)) (10 ∷ []) _ c.put-2.result
    (line_pieces c.args.name.now (position_words c.args.set.now)) c.in_ok-put.ensures c.in_ok-put_positions.ensures c.put-2.ensures

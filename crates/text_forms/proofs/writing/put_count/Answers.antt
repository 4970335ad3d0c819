use Rattle.std.proofs.Common.{[], ◌∷◌}
use Rattle.std.specs.Fmt.{decimal}
use Rattle.text_forms.proofs.Pieces.{first_stops, rest_stops, refused, third_is_last, count_pieces}
use Rattle.text_forms.proofs.writing.put_count.Goals as goal

pub returns-in_err-put : goal.returns-in_err-put
returns-in_err-put c = refused c.from_residual.result c.args.out.now.items _ _ _
    (count_pieces c.args.name.now c.args.n) c.from_residual.ensures.0 (first_stops _ _ _ _ c.in_err-put.ensures)

pub returns-in_err-put_number : goal.returns-in_err-put_number
returns-in_err-put_number c =
    refused c.from_residual-in_err-put_number.result c.args.out.now.items _ _ _
    (count_pieces c.args.name.now c.args.n) c.from_residual-in_err-put_number.ensures.0
    (rest_stops _ _ _ _ _ c.in_ok-put.ensures (first_stops _ _ _ _ c.in_err-put_number.ensures))

pub returns : goal.returns
returns c =
    third_is_last c.args.out.now.items c.put.new.out.items c.put_number.new.out.items c.put-2.new.out.items c.args.name.now
    (32 ∷ decimal c.args.n) (10 ∷ []) _ c.put-2.result
    (count_pieces c.args.name.now c.args.n) c.in_ok-put.ensures c.in_ok-put_number.ensures c.put-2.ensures

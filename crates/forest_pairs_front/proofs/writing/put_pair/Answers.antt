use Rattle.std.proofs.Common.{ℕ, List, [], ◌∷◌, ◌++◌, ◌+◌, ◌*◌}
use Rattle.std.specs.Prelude.{codes}
use Rattle.std.specs.Fmt.{decimal}
use Rattle.text_forms.proofs.Pieces.{first_stops, rest_stops, refused, then_rest, third_is_last}
use Rattle.forest_pairs_front.proofs.PairPieces.{pair_pieces}
use Rattle.forest_pairs_front.proofs.writing.put_pair.Goals as goal

pub returns-in_err-put : goal.returns-in_err-put
returns-in_err-put c = refused c.from_residual.result c.args.out.now.items _ _ _ (pair_pieces c.args.pair) c.from_residual.ensures.0
    (first_stops _ _ _ _ c.in_err-put.ensures)

pub returns-in_err-put_number : goal.returns-in_err-put_number
returns-in_err-put_number c =
    refused c.from_residual-in_err-put_number.result c.args.out.now.items _ _ _ (pair_pieces c.args.pair)
    c.from_residual-in_err-put_number.ensures.0
    (rest_stops _ _ _ _ _ c.in_ok-put.ensures (first_stops _ _ _ _ c.in_err-put_number.ensures))

pub returns-in_err-put_number-2 : goal.returns-in_err-put_number-2
returns-in_err-put_number-2 c =
    refused c.from_residual-in_err-put_number-2.result c.args.out.now.items _ _ _ (pair_pieces c.args.pair)
    c.from_residual-in_err-put_number-2.ensures.0
    (rest_stops _ _ _ _ _ c.in_ok-put.ensures (rest_stops _ _ _ _ _ c.in_ok-put_number.ensures
    (first_stops _ _ _ _ c.in_err-put_number-2.ensures)))

pub returns-in_err-put_number-3 : goal.returns-in_err-put_number-3
returns-in_err-put_number-3 c =
    refused c.from_residual-in_err-put_number-3.result c.args.out.now.items _ _ _ (pair_pieces c.args.pair)
    c.from_residual-in_err-put_number-3.ensures.0
    (rest_stops _ _ _ _ _ c.in_ok-put.ensures (rest_stops _ _ _ _ _ c.in_ok-put_number.ensures
    (rest_stops _ _ _ _ _ c.in_ok-put_number-2.ensures (first_stops _ _ _ _ c.in_err-put_number-3.ensures))))

pub returns : goal.returns
returns c =
    let number : List ℕ = 32 ∷ decimal (c.args.pair + 1) in
    let first : List ℕ = 32 ∷ decimal (2 * c.args.pair + 1) in
    let second : List ℕ = 32 ∷ decimal (2 * c.args.pair + 2) in
    third_is_last c.args.out.now.items c.put.new.out.items c.put_number.new.out.items c.put-2.new.out.items (codes "pair") number
    (first ++ (second ++ 10 ∷ [])) _ c.put-2.result (pair_pieces c.args.pair) c.in_ok-put.ensures c.in_ok-put_number.ensures
    (then_rest c.put_number.new.out.items c.put_number-2.new.out.items c.put-2.new.out.items first (second ++ 10 ∷ []) c.put-2.result
    c.in_ok-put_number-2.ensures
    (then_rest c.put_number-2.new.out.items c.put_number-3.new.out.items c.put-2.new.out.items second (10 ∷ []) c.put-2.result
    c.in_ok-put_number-3.ensures c.put-2.ensures))

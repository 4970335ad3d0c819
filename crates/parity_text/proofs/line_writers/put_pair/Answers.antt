use Rattle.std.proofs.Common.{[], ◌∷◌, ◌++◌, map}
use Rattle.std.specs.Prelude.{codes}
use Rattle.std.specs.Fmt.{decimal}
use Rattle.std.specs.List.{flat_map}
use Rattle.parity_text.proofs.TextPieces.{pair_pieces}
use Rattle.text_forms.proofs.Pieces.{first_stops, rest_stops, refused, then_rest, third_is_last}
use Rattle.parity_text.proofs.line_writers.put_pair.Goals as goal

pub returns-in_err-put : goal.returns-in_err-put
returns-in_err-put g c =
    let us = map decimal (map g.F.Field.number c.args.first.now) in
    let vs = map decimal (map g.F.Field.number c.args.second.now) in
    refused c.from_residual.result c.args.out.now.items _ _ _ (pair_pieces us vs) c.from_residual.ensures.0
    (first_stops _ _ _ _ c.in_err-put.ensures)

pub returns-in_err-put_elements : goal.returns-in_err-put_elements
returns-in_err-put_elements g c =
    let us = map decimal (map g.F.Field.number c.args.first.now) in
    let vs = map decimal (map g.F.Field.number c.args.second.now) in
    refused c.from_residual-in_err-put_elements.result c.args.out.now.items _ _ _
    (pair_pieces us vs) c.from_residual-in_err-put_elements.ensures.0
    (rest_stops _ _ _ _ _ c.in_ok-put.ensures (first_stops _ _ _ _ c.in_err-put_elements.ensures))

pub returns-in_err-put-2 : goal.returns-in_err-put-2
returns-in_err-put-2 g c =
    let us = map decimal (map g.F.Field.number c.args.first.now) in
    let vs = map decimal (map g.F.Field.number c.args.second.now) in
    refused c.from_residual-in_err-put-2.result c.args.out.now.items _ _ _ (pair_pieces us vs) c.from_residual-in_err-put-2.ensures.0
    (rest_stops _ _ _ _ _ c.in_ok-put.ensures
    (rest_stops _ _ _ _ _ c.in_ok-put_elements.ensures (first_stops _ _ _ _ c.in_err-put-2.ensures)))

pub returns-in_err-put_elements-2 : goal.returns-in_err-put_elements-2
returns-in_err-put_elements-2 g c =
    let us = map decimal (map g.F.Field.number c.args.first.now) in
    let vs = map decimal (map g.F.Field.number c.args.second.now) in
    refused c.from_residual-in_err-put_elements-2.result c.args.out.now.items _ _ _
    (pair_pieces us vs) c.from_residual-in_err-put_elements-2.ensures.0
    (rest_stops _ _ _ _ _ c.in_ok-put.ensures
    (rest_stops _ _ _ _ _ c.in_ok-put_elements.ensures
    (rest_stops _ _ _ _ _ c.in_ok-put-2.ensures (first_stops _ _ _ _ c.in_err-put_elements-2.ensures))))

pub returns : goal.returns
returns g c =
    let us = map decimal (map g.F.Field.number c.args.first.now) in
    let vs = map decimal (map g.F.Field.number c.args.second.now) in
    third_is_last c.args.out.now.items c.put.new.out.items c.put_elements.new.out.items c.put-3.new.out.items (codes "line")
    (flat_map (λ w. 32 ∷ w) us) ((codes " |") ++ ((flat_map (λ w. 32 ∷ w) vs) ++ ((10 ∷ [])))) _ c.put-3.result
    (pair_pieces us vs) c.in_ok-put.ensures c.in_ok-put_elements.ensures
    (then_rest c.put_elements.new.out.items c.put-2.new.out.items c.put-3.new.out.items (codes " |")
    ((flat_map (λ w. 32 ∷ w) vs) ++ ((10 ∷ []))) c.put-3.result c.in_ok-put-2.ensures
    (then_rest c.put-2.new.out.items c.put_elements-2.new.out.items c.put-3.new.out.items (flat_map (λ w. 32 ∷ w) vs)
    ((10 ∷ [])) c.put-3.result c.in_ok-put_elements-2.ensures
    (c.put-3.ensures)))

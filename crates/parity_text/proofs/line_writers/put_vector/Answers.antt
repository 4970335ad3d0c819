use Rattle.std.proofs.Common.{[], ◌∷◌, map}
use Rattle.std.specs.Prelude.{codes}
use Rattle.std.specs.Fmt.{decimal}
use Rattle.std.specs.List.{flat_map}
use Rattle.text_forms.proofs.Pieces.{first_stops, rest_stops, refused, third_is_last, line_pieces}
use Rattle.parity_text.proofs.line_writers.put_vector.Goals as goal

pub returns-in_err-put : goal.returns-in_err-put
returns-in_err-put g c = refused c.from_residual.result c.args.out.now.items _ _ _
    (line_pieces (codes "vector") (map decimal (map g.F.Field.number c.args.v.now))) c.from_residual.ensures.0
    (first_stops _ _ _ _ c.in_err-put.ensures)

pub returns-in_err-put_elements : goal.returns-in_err-put_elements
returns-in_err-put_elements g c =
    refused c.from_residual-in_err-put_elements.result c.args.out.now.items _ _ _
    (line_pieces (codes "vector") (map decimal (map g.F.Field.number c.args.v.now))) c.from_residual-in_err-put_elements.ensures.0
    (rest_stops _ _ _ _ _ c.in_ok-put.ensures (first_stops _ _ _ _ c.in_err-put_elements.ensures))

pub returns : goal.returns
returns g c =
    third_is_last c.args.out.now.items c.put.new.out.items c.put_elements.new.out.items c.put-2.new.out.items (codes "vector")
    (flat_map (λ w. 32 ∷ w) (map decimal (map g.F.Field.number c.args.v.now))) (10 ∷ []) _ c.put-2.result
    (line_pieces (codes "vector") (map decimal
    (map g.F.Field.number c.args.v.now))) c.in_ok-put.ensures c.in_ok-put_elements.ensures c.put-2.ensures

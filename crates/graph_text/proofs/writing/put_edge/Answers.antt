use Rattle.std.proofs.Common.{ℕ, List, [], ◌∷◌, ◌++◌, ◌+◌}
use Rattle.std.specs.Prelude.{codes}
use Rattle.std.specs.Fmt.{decimal}
use Rattle.graph_theory.specs.Walks.{edge_at}
use Rattle.graph_text.specs.Spelled.{name_at}
use Rattle.graph_text.proofs.Pieces.{edge_pieces}
use Rattle.text_forms.proofs.Pieces.{first_stops, rest_stops, refused, then_rest, third_is_last}
use Rattle.graph_text.proofs.writing.put_edge.Goals as goal

pub returns-in_err-put : goal.returns-in_err-put
returns-in_err-put c =
    let g = c.args.graph.now in
    let e = edge_at g.ends c.args.edge in
    refused c.from_residual.result c.args.out.now.items _ _ _ (edge_pieces (c.args.edge + 1) (name_at g e.0) (name_at g e.1)) c.from_residual.ensures.0
    (first_stops _ _ _ _ c.in_err-put.ensures)

pub returns-in_err-put_number : goal.returns-in_err-put_number
returns-in_err-put_number c =
    let g = c.args.graph.now in
    let e = edge_at g.ends c.args.edge in
    refused c.from_residual-in_err-put_number.result c.args.out.now.items _ _ _ (edge_pieces (c.args.edge + 1) (name_at g e.0) (name_at g e.1)) c.from_residual-in_err-put_number.ensures.0
    (rest_stops _ _ _ _ _ c.in_ok-put.ensures (first_stops _ _ _ _ c.in_err-put_number.ensures))

pub returns-in_err-put_name : goal.returns-in_err-put_name
returns-in_err-put_name c =
    let g = c.args.graph.now in
    let e = edge_at g.ends c.args.edge in
    refused c.from_residual-in_err-put_name.result c.args.out.now.items _ _ _ (edge_pieces (c.args.edge + 1) (name_at g e.0) (name_at g e.1)) c.from_residual-in_err-put_name.ensures.0
    (rest_stops _ _ _ _ _ c.in_ok-put.ensures (rest_stops _ _ _ _ _ c.in_ok-put_number.ensures (first_stops _ _ _ _ (rw c.ends.ensures.value at c.in_err-put_name.ensures))))

pub returns-in_err-put_name-2 : goal.returns-in_err-put_name-2
returns-in_err-put_name-2 c =
    let g = c.args.graph.now in
    let e = edge_at g.ends c.args.edge in
    refused c.from_residual-in_err-put_name-2.result c.args.out.now.items _ _ _ (edge_pieces (c.args.edge + 1) (name_at g e.0) (name_at g e.1)) c.from_residual-in_err-put_name-2.ensures.0
    (rest_stops _ _ _ _ _ c.in_ok-put.ensures (rest_stops _ _ _ _ _ c.in_ok-put_number.ensures
    (rest_stops _ _ _ _ _ (rw c.ends.ensures.value at c.in_ok-put_name.ensures) (first_stops _ _ _ _ (rw c.ends-2.ensures.value at c.in_err-put_name-2.ensures)))))

pub returns : goal.returns
returns c =
    let g = c.args.graph.now in
    let e = edge_at g.ends c.args.edge in
    let number : List ℕ = 32 ∷ decimal (c.args.edge + 1) in
    let first : List ℕ = 32 ∷ name_at g e.0 in
    let second : List ℕ = 32 ∷ name_at g e.1 in
    third_is_last c.args.out.now.items c.put.new.out.items c.put_number.new.out.items c.put-2.new.out.items (codes "edge") number (first ++ (second ++ 10 ∷ [])) _ c.put-2.result
    (edge_pieces (c.args.edge + 1) (name_at g e.0) (name_at g e.1)) c.in_ok-put.ensures c.in_ok-put_number.ensures
    (then_rest c.put_number.new.out.items c.put_name.new.out.items c.put-2.new.out.items first (second ++ 10 ∷ []) c.put-2.result (rw c.ends.ensures.value at c.in_ok-put_name.ensures)
    (then_rest c.put_name.new.out.items c.put_name-2.new.out.items c.put-2.new.out.items second (10 ∷ []) c.put-2.result (rw c.ends-2.ensures.value at c.in_ok-put_name-2.ensures) c.put-2.ensures))

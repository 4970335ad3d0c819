use Rattle.std.proofs.Common.{[], ◌∷◌, map}
use Rattle.std.specs.List.{flat_map}
use Rattle.graph_text.specs.Spelled.{name_at}
use Rattle.text_forms.proofs.Pieces.{first_stops, rest_stops, refused, third_is_last, line_pieces}
use Rattle.graph_text.proofs.writing.put_listed.Goals as goal

pub returns-in_err-put : goal.returns-in_err-put
returns-in_err-put c = refused c.from_residual.result c.args.out.now.items _ _ _ (line_pieces c.args.word.now (map (name_at c.args.graph.now) c.args.vertices.now)) c.from_residual.ensures.0 (first_stops _ _ _ _ c.in_err-put.ensures)

pub returns-in_err-put_names : goal.returns-in_err-put_names
returns-in_err-put_names c =
    refused c.from_residual-in_err-put_names.result c.args.out.now.items _ _ _ (line_pieces c.args.word.now (map (name_at c.args.graph.now) c.args.vertices.now)) c.from_residual-in_err-put_names.ensures.0
    (rest_stops _ _ _ _ _ c.in_ok-put.ensures (first_stops _ _ _ _ c.in_err-put_names.ensures))

pub returns : goal.returns
returns c =
    third_is_last c.args.out.now.items c.put.new.out.items c.put_names.new.out.items c.put-2.new.out.items c.args.word.now (flat_map (λ w. 32 ∷ w) (map (name_at c.args.graph.now) c.args.vertices.now)) (10 ∷ []) _ c.put-2.result
    (line_pieces c.args.word.now (map (name_at c.args.graph.now) c.args.vertices.now)) c.in_ok-put.ensures c.in_ok-put_names.ensures c.put-2.ensures

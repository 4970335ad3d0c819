use Rattle.std.proofs.Common.{[], ◌∷◌, refl}
use Rattle.graph_text.specs.Spelled.{name_at}
use Rattle.text_forms.proofs.Pieces.{first_stops, refused}
use Rattle.graph_text.proofs.writing.put_name.Goals as goal

pub returns-in_err-put : goal.returns-in_err-put
returns-in_err-put c = refused c.from_residual.result _ _ _ _ refl c.from_residual.ensures.0 (first_stops c.args.out.now.items _ (32 ∷ []) (name_at c.args.graph.now c.args.vertex) c.in_err-put.ensures)

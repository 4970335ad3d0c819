use Rattle.std.proofs.Common.{[], ◌∷◌, refl}
use Rattle.std.specs.Fmt.{decimal}
use Rattle.text_forms.proofs.Pieces.{first_stops, refused}
use Rattle.text_forms.proofs.writing.put_number.Goals as goal

pub returns-in_err-put : goal.returns-in_err-put
returns-in_err-put c = refused c.from_residual.result _ _ _ _ refl c.from_residual.ensures.0
    (first_stops c.args.out.now.items _ (32 ∷ []) (decimal c.args.n) c.in_err-put.ensures)

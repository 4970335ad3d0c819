use Rattle.std.proofs.Common.{map, ap, ◌∙◌, refl}
use Rattle.field_core.proofs.Refills.{refill_same, written_back}
use Rattle.field_core.proofs.row.Row.as_mut_slice.Goals as goal

pub returns : goal.returns
returns g c =
    let f = g.F.Field.number in
    let entries = c.self.inside.entries in (
      (refl {a = c.as_mut_slice.result.ghost_name}, λ ws. written_back f entries.len entries.items ws c.args.self.now entries.ok.0 c.self.view_is),
      record { writes_back = tt; value = ap (map f) c.as_mut_slice.ensures.value ∙ c.self.view_is; whole = λ ws e. refill_same _ _ ws e },
    )

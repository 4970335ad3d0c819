use Rattle.std.proofs.Common.{inl, inr, IsTrue, not, sym, ap, ◌∙◌}
use Rattle.std.proofs.lemmas.Bool.{cases_Bool, false≢true}
use Rattle.matching_state.proofs.FoundSupports.{zero_window}
use Rattle.overlap.proofs.point.has_pair.Goals as goal

pub returns : goal.returns
returns g c =
    let window = zero_window g.F.Field.scalars g.F.Field.number c.args.v.now c.args.i c.requires in (
      λ t z. absurd (false≢true (sym (ap not (c.is_zero.ensures.1 (window.1 z))) ∙ t)),
      λ n. elim (cases_Bool c.is_zero.result) as (λ _. IsTrue (not c.is_zero.result)) [
        | inl e ↦ absurd (n (window.0 (c.is_zero.ensures.0 e)))
        | inr e ↦ ap not e
      ],
    )

use Rattle.std.proofs.Common.{subst, sym, ◌∙◌}
use Rattle.rotation_system.specs.DartPlaces.{IsPlace}
use Rattle.rotation_system.proofs.DartLists.{last_place}
use Rattle.rotation_system.proofs.darts.Darts.last.Goals as goal

pub returns : goal.returns
returns c = subst (λ w. IsPlace w c.copied.result) (c.deref.ensures.value ∙ c.self.view_is)
    (subst (IsPlace c.deref.result.now) (sym (c.copied.ensures ∙ c.last.ensures.value)) (last_place c.deref.result.now))

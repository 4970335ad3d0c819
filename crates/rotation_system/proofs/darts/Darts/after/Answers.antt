use Rattle.std.proofs.Common.{◌+◌, ◌<◌, ◌≤◌, get_or, length, refl, sym, ap, subst, ◌∙◌}
use Rattle.edge_lists.specs.Occurrences.{count}
use Rattle.edge_lists.proofs.Occurrences.{count_of_in}
use Rattle.rotation_system.specs.DartPlaces.{IsPlace}
use Rattle.rotation_system.specs.PlacedDarts.{IsAfter}
use Rattle.rotation_system.proofs.darts.Darts.after.Goals as goal

pub index_of-requires : goal.index_of-requires
index_of-requires c = subst (λ s. 1 ≤ count c.in-Some.dart s) (sym c.as_slice.ensures)
    (count_of_in c.in-Some.dart c.args.self.now (subst (IsPlace c.args.self.now) c.in-Some.is c.requires))

pub returns-in-Some : goal.returns-in-Some
returns-in-Some c = subst (λ o. IsAfter c.args.self.now o (c.index_of.result + 1)) (sym c.in-Some.is) (
  c.index_of.result,
  subst (λ s. c.index_of.result < length s) c.as_slice.ensures c.index_of.ensures.within,
  ap (λ s. get_or s c.index_of.result 0) (sym c.as_slice.ensures) ∙ c.index_of.ensures.found,
  refl,
)

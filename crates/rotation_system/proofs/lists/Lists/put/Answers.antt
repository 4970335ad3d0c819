use Rattle.std.proofs.Common.{All, [], get_or, sym, subst}
use Rattle.std.proofs.lemmas.List.Elements.{All-set}
use Rattle.vector_spaces.proofs.Members.{In-all, In-get_or}
use Rattle.rotation_system.specs.RotationSystems.{BeginsWithLeast}
use Rattle.rotation_system.specs.DartPlaces.{IsPlace}
use Rattle.rotation_system.specs.PlacedDarts.{IsPut}
use Rattle.rotation_system.proofs.lists.Lists.put.Goals as goal

pub with-requires-clause-place : goal.with-requires-clause-place
with-requires-clause-place c = subst (λ w. IsPlace w c.args.place) (sym c.at.ensures) c.requires.place

pub with-requires-clause-least : goal.with-requires-clause-least
with-requires-clause-least c = subst BeginsWithLeast (sym c.at.ensures) (In-all BeginsWithLeast c.args.self.now c.requires.least
    (get_or c.args.self.now c.args.vertex []) (In-get_or c.args.self.now c.args.vertex [] c.requires.vertex))

pub returns-clause-put : goal.returns-clause-put
returns-clause-put c = record {
  list = c.in_ok-darts.darts;
  vertex = c.requires.vertex;
  put = subst (λ w. IsPut c.args.place c.args.dart w c.in_ok-darts.darts) c.at.ensures c.in_ok-darts.ensures.put;
  after = c.exchange-old.ensures.after;
}

pub returns-clause-least : goal.returns-clause-least
returns-clause-least c = subst (All BeginsWithLeast) (sym c.exchange-old.ensures.after)
    (All-set BeginsWithLeast c.args.self.now c.args.vertex c.in_ok-darts.darts c.in_ok-darts.ensures.least c.requires.least)

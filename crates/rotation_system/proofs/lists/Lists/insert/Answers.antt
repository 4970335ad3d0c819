use Rattle.std.proofs.Common.{◌+◌, [], get_or, sym, ap, subst, ◌∙◌, arith}
use Rattle.std.specs.Prelude.{slice_set}
use Rattle.rotation_system.specs.DartPlaces.{IsPlace}
use Rattle.rotation_system.specs.PlacedDarts.{IsPutIn}
use Rattle.rotation_system.proofs.PutDarts.{put_back, put_long, second_is_place}
use Rattle.rotation_system.proofs.lists.Lists.insert.Goals as goal

pub put-requires-2-clause-vertex : goal.put-requires-2-clause-vertex
put-requires-2-clause-vertex c = omega (
  arith,
  c.requires.second_vertex,
  put_long c.args.self.now c.put.new.self c.args.ends.0 c.args.dart c.args.first_after c.in_ok-old.ensures.put,
)

pub put-requires-2-clause-place : goal.put-requires-2-clause-place
put-requires-2-clause-place c = subst (IsPlace (get_or c.put.new.self c.args.ends.1 [])) (sym c.place_of_second-place.ensures)
    (second_is_place c.args.self.now c.put.new.self c.args.ends c.args.first_after c.args.second_after c.args.dart c.requires.first_place
    c.requires.second_place c.in_ok-old.ensures.put)

pub returns-in-Ok-clause-inserted : goal.returns-in-Ok-clause-inserted
returns-in-Ok-clause-inserted c = record {
  middle = c.put.new.self;
  first = c.in_ok-old.ensures.put;
  second = subst (λ o. IsPutIn c.put.new.self c.args.ends.1 o (c.args.dart + 1) c.put-2.new.self) c.place_of_second-place.ensures
      c.in-Ok.ensures.put;
}

pub returns-in-Err-clause-err : goal.returns-in-Err-clause-err
returns-in-Err-clause-err c = put_back c.args.self.now c.put.new.self c.exchange.new.self c.args.ends.0 c.args.dart c.args.first_after
    c.in_ok-old.old c.in_ok-old.ensures.put c.in_ok-old.ensures.old
    (c.exchange.ensures.after ∙ ap (λ X. slice_set X c.args.ends.0 c.in_ok-old.old) c.in-Err.ensures.err)

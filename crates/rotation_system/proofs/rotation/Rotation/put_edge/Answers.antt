use Rattle.std.proofs.Common.{length, ap, arith}
use Rattle.graph_theory.specs.Walks.{edge_at}
use Rattle.rotation_theory.specs.Darts.{dart}
use Rattle.rotation_system.proofs.PutDarts.{place_as, put_as}
use Rattle.rotation_system.proofs.Systems.{inserted_holds, inserted_system}
use Rattle.rotation_system.proofs.rotation.Rotation.put_edge.Goals as goal

pub first_dart-requires : goal.first_dart-requires
first_dart-requires c = omega (arith, c.requires.edge, c.vertices-vertices.ensures.system.few)

pub insert-requires-clause-first_vertex : goal.insert-requires-clause-first_vertex
insert-requires-clause-first_vertex c = omega (arith, c.ends-ends.ensures.first_vertex, ap (λ r. length r.lists) c.self.view_is)

pub insert-requires-clause-second_vertex : goal.insert-requires-clause-second_vertex
insert-requires-clause-second_vertex c = omega (arith, c.ends-ends.ensures.second_vertex, ap (λ r. length r.lists) c.self.view_is)

pub insert-requires-clause-first_place : goal.insert-requires-clause-first_place
insert-requires-clause-first_place c = place_as c.args.self.now.lists c.self.inside.lists (edge_at c.args.self.now.ends c.args.edge).0
    c.ends-ends.result.0 c.args.first_after (ap (λ r. r.lists) c.self.view_is) (ap (λ p. p.0) c.ends-ends.ensures.value)
    c.requires.first_place

pub insert-requires-clause-second_place : goal.insert-requires-clause-second_place
insert-requires-clause-second_place c = place_as c.args.self.now.lists c.self.inside.lists (edge_at c.args.self.now.ends c.args.edge).1
    c.ends-ends.result.1 c.args.second_after (ap (λ r. r.lists) c.self.view_is) (ap (λ p. p.1) c.ends-ends.ensures.value)
    c.requires.second_place

pub insert-requires-clause-least : goal.insert-requires-clause-least
insert-requires-clause-least c = c.self.invariant.least

pub invariant_of-self-2 : goal.invariant_of-self-2
invariant_of-self-2 c = inserted_system c.args.self.now c.vertices-vertices.ensures.system c.args.edge c.requires.edge c.requires.new
    c.args.first_after
    c.args.second_after c.insert.new.self (put_as c.args.self.now.lists c.self.inside.lists c.insert.new.self
    (edge_at c.args.self.now.ends c.args.edge) c.ends-ends.result c.args.first_after c.args.second_after (dart c.args.edge)
    c.first_dart.result
    (ap (λ r. r.lists) c.self.view_is) c.ends-ends.ensures.value c.first_dart.ensures.value c.in_ok-insert.ensures.inserted)
    c.self.inside.ends.items (ap (λ r. r.ends) c.self.view_is) c.in_ok-insert.ensures.least

pub returns-clause-held : goal.returns-clause-held
returns-clause-held c = inserted_holds c.args.self.now c.vertices-vertices.ensures.system c.args.edge c.requires.edge c.requires.new
    c.args.first_after c.args.second_after c.insert.new.self (put_as c.args.self.now.lists c.self.inside.lists c.insert.new.self
    (edge_at c.args.self.now.ends c.args.edge) c.ends-ends.result c.args.first_after c.args.second_after (dart c.args.edge)
    c.first_dart.result
    (ap (λ r. r.lists) c.self.view_is) c.ends-ends.ensures.value c.first_dart.ensures.value c.in_ok-insert.ensures.inserted)
    c.self.inside.ends.items (ap (λ r. r.ends) c.self.view_is)

pub returns-clause-put : goal.returns-clause-put
returns-clause-put c = put_as c.args.self.now.lists c.self.inside.lists c.insert.new.self (edge_at c.args.self.now.ends c.args.edge)
    c.ends-ends.result
    c.args.first_after c.args.second_after (dart c.args.edge) c.first_dart.result (ap (λ r. r.lists) c.self.view_is)
    c.ends-ends.ensures.value
    c.first_dart.ensures.value c.in_ok-insert.ensures.inserted

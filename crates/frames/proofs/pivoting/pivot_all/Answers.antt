use Rattle.frames.proofs.Arounds.{all_many, all_pivoted, front_lists, rest_lists, incoming_vector, incoming_place, incoming_factor}
use Rattle.frames.proofs.pivoting.pivot_all.Goals as goal

pub pivot_lists-requires-clause-lists : goal.pivot_lists-requires-clause-lists
pivot_lists-requires-clause-lists g c =
    front_lists g.F.Field.scalars c.args.j c.args.lists.now c.split_at_mut-front.result.0.now c.split_at_mut-front.result.1.now c.in-Some.rest.now c.in-Some.incoming.now
    c.split_at_mut-front.ensures.value c.in-Some.ensures.cases.0 c.split_at_mut-front.ensures.front_len c.requires.lists

pub pivot_lists-requires-clause-incoming : goal.pivot_lists-requires-clause-incoming
pivot_lists-requires-clause-incoming g c =
    incoming_vector g.F.Field.scalars c.args.j c.args.lists.now c.split_at_mut-front.result.0.now c.split_at_mut-front.result.1.now c.in-Some.rest.now c.in-Some.incoming.now
    c.split_at_mut-front.ensures.value c.in-Some.ensures.cases.0 c.split_at_mut-front.ensures.front_len c.requires.lists

pub pivot_lists-requires-clause-place : goal.pivot_lists-requires-clause-place
pivot_lists-requires-clause-place g c =
    incoming_place g.F.Field.scalars c.args.j c.args.lists.now c.split_at_mut-front.result.0.now c.split_at_mut-front.result.1.now c.in-Some.rest.now c.in-Some.incoming.now
    c.split_at_mut-front.ensures.value c.in-Some.ensures.cases.0 c.split_at_mut-front.ensures.front_len c.args.i c.requires.place

pub pivot_lists-requires-clause-factor : goal.pivot_lists-requires-clause-factor
pivot_lists-requires-clause-factor g c =
    incoming_factor g.F.Field.scalars c.args.j c.args.lists.now c.split_at_mut-front.result.0.now c.split_at_mut-front.result.1.now c.in-Some.rest.now c.in-Some.incoming.now
    c.split_at_mut-front.ensures.value c.in-Some.ensures.cases.0 c.split_at_mut-front.ensures.front_len c.args.i _ c.requires.factor

pub pivot_lists-requires-in-Some-clause-lists : goal.pivot_lists-requires-in-Some-clause-lists
pivot_lists-requires-in-Some-clause-lists g c =
    rest_lists g.F.Field.scalars c.args.j c.args.lists.now c.split_at_mut-front.result.0.now c.split_at_mut-front.result.1.now c.in-Some.rest.now c.in-Some.incoming.now
    c.split_at_mut-front.ensures.value c.in-Some.ensures.cases.0 c.split_at_mut-front.ensures.front_len c.requires.lists

pub pivot_lists-requires-in-Some-clause-incoming : goal.pivot_lists-requires-in-Some-clause-incoming
pivot_lists-requires-in-Some-clause-incoming g c =
    incoming_vector g.F.Field.scalars c.args.j c.args.lists.now c.split_at_mut-front.result.0.now c.split_at_mut-front.result.1.now c.in-Some.rest.now c.in-Some.incoming.now
    c.split_at_mut-front.ensures.value c.in-Some.ensures.cases.0 c.split_at_mut-front.ensures.front_len c.requires.lists

pub pivot_lists-requires-in-Some-clause-place : goal.pivot_lists-requires-in-Some-clause-place
pivot_lists-requires-in-Some-clause-place g c =
    incoming_place g.F.Field.scalars c.args.j c.args.lists.now c.split_at_mut-front.result.0.now c.split_at_mut-front.result.1.now c.in-Some.rest.now c.in-Some.incoming.now
    c.split_at_mut-front.ensures.value c.in-Some.ensures.cases.0 c.split_at_mut-front.ensures.front_len c.args.i c.requires.place

pub pivot_lists-requires-in-Some-clause-factor : goal.pivot_lists-requires-in-Some-clause-factor
pivot_lists-requires-in-Some-clause-factor g c =
    incoming_factor g.F.Field.scalars c.args.j c.args.lists.now c.split_at_mut-front.result.0.now c.split_at_mut-front.result.1.now c.in-Some.rest.now c.in-Some.incoming.now
    c.split_at_mut-front.ensures.value c.in-Some.ensures.cases.0 c.split_at_mut-front.ensures.front_len c.args.i _ c.requires.factor

pub become_unit-requires-clause-scalars : goal.become_unit-requires-clause-scalars
become_unit-requires-clause-scalars g c =
    (incoming_vector g.F.Field.scalars c.args.j c.args.lists.now c.split_at_mut-front.result.0.now c.split_at_mut-front.result.1.now c.in-Some.rest.now c.in-Some.incoming.now
    c.split_at_mut-front.ensures.value c.in-Some.ensures.cases.0 c.split_at_mut-front.ensures.front_len c.requires.lists).entries

pub become_unit-requires-clause-place : goal.become_unit-requires-clause-place
become_unit-requires-clause-place g c =
    incoming_place g.F.Field.scalars c.args.j c.args.lists.now c.split_at_mut-front.result.0.now c.split_at_mut-front.result.1.now c.in-Some.rest.now c.in-Some.incoming.now
    c.split_at_mut-front.ensures.value c.in-Some.ensures.cases.0 c.split_at_mut-front.ensures.front_len c.args.i c.requires.place

pub returns-in-Some-clause-many : goal.returns-in-Some-clause-many
returns-in-Some-clause-many g c =
    all_many g.F.Field.scalars c.args.j c.args.lists.now c.split_at_mut-front.result.0.now c.split_at_mut-front.result.1.now c.in-Some.rest.now c.in-Some.incoming.now
    c.split_at_mut-front.ensures.value c.in-Some.ensures.cases.0 c.split_at_mut-front.ensures.front_len g.met.F.Field.lawful c.args.i c.pivot_lists.new.lists c.pivot_lists-in-Some.new.lists c.become_unit.new.list
    c.pivot_lists.ensures.many c.pivot_lists-in-Some.ensures.many c.pivot_lists.ensures.each c.pivot_lists-in-Some.ensures.each c.requires.lists c.requires.place c.become_unit.ensures

pub returns-in-Some-clause-each : goal.returns-in-Some-clause-each
returns-in-Some-clause-each g c =
    all_pivoted g.F.Field.scalars c.args.j c.args.lists.now c.split_at_mut-front.result.0.now c.split_at_mut-front.result.1.now c.in-Some.rest.now c.in-Some.incoming.now
    c.split_at_mut-front.ensures.value c.in-Some.ensures.cases.0 c.split_at_mut-front.ensures.front_len g.met.F.Field.lawful c.args.i c.pivot_lists.new.lists c.pivot_lists-in-Some.new.lists c.become_unit.new.list
    c.pivot_lists.ensures.many c.pivot_lists-in-Some.ensures.many c.pivot_lists.ensures.each c.pivot_lists-in-Some.ensures.each c.requires.lists c.requires.place c.become_unit.ensures

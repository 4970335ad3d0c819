use Rattle.classes.proofs.transit.transit.Goals as goal

pub shared_by-requires-clause-long : goal.shared_by-requires-clause-long
shared_by-requires-clause-long g c = rw c.in_ok-state.ensures.problem c.requires.long

pub shared_by-requires-clause-missed : goal.shared_by-requires-clause-missed
shared_by-requires-clause-missed g c = rw (c.in_ok-state.ensures.problem, c.in_ok-state.ensures.set) c.requires.missed

pub shared_by-requires-clause-target : goal.shared_by-requires-clause-target
shared_by-requires-clause-target g c = rw (c.in_ok-state.ensures.problem, c.in_ok-state.ensures.set) c.requires.target

pub shared_by-requires-clause-first_long : goal.shared_by-requires-clause-first_long
shared_by-requires-clause-first_long g c = rw c.in_ok-state.ensures.problem c.requires.first_long

pub returns : goal.returns
returns g c = rw (c.in_ok-state.ensures.problem, c.in_ok-state.ensures.set) at c.shared_by.ensures

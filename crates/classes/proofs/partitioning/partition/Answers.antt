use Rattle.classes.proofs.TurnTies.{size-size_of}
use Rattle.classes.proofs.partitioning.partition.Goals as goal

pub turns-requires : goal.turns-requires
turns-requires g c L =
    record { none = c.requires; table = (rw c.in-None.is at c.in_ok-larger.ensures) L }

pub take_members-requires : goal.take_members-requires
take_members-requires g c = record {
  table = λ L. rw c.problem.ensures at (c.in_ok-table.ensures L);
}

pub returns-in-Some-clause-told : goal.returns-in-Some-clause-told
returns-in-Some-clause-told g c k =
    rw (size-size_of g.F.Field.scalars c.args.family.now k) (rw c.in-Some.is at c.in_ok-larger.ensures)

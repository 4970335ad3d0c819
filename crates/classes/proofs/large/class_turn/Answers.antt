use Rattle.classes.proofs.ClassTies.{least_labels}
use Rattle.classes.proofs.TurnTies.{not_empty}
use Rattle.classes.specs.Tables.{akin_at}
use Rattle.std.proofs.Common.{length}
use Rattle.classes.proofs.large.class_turn.Goals as goal

pub member-requires : goal.member-requires
member-requires g c = not_empty c.args.family.now.sets c.len-members.ensures.family.nonempty

pub division_of-requires-clause-labels : goal.division_of-requires-clause-labels
division_of-requires-clause-labels g c =
    rw c.problem-2.ensures (least_labels (length c.args.family.now.problem.lines) (akin_at c.args.table.now) c.args.labels.now c.requires.classes)

pub division_of-requires-clause-set : goal.division_of-requires-clause-set
division_of-requires-clause-set g c = rw c.problem-2.ensures c.member.ensures.independent

pub returns-in-Parts : goal.returns-in-Parts
returns-in-Parts g c L = rw (c.problem-2.ensures, c.member.ensures.value, c.in-Parts.is) at c.in_ok-parts.ensures

pub large_turn-requires-clause-large : goal.large_turn-requires-clause-large
large_turn-requires-clause-large g c = rw (c.problem-2.ensures, c.member.ensures.value, c.in-Large.is) at c.in_ok-parts.ensures

use Rattle.std.proofs.Common.{[], get_or}
use Rattle.linear_algebra.specs.Scalars.{IsField}
use Rattle.parity_lines.specs.LineSets.{IsIndependentSet}
use Rattle.classes.proofs.ClassTies.{split_separated, split_within}
use Rattle.classes.proofs.TurnFacts.{TurnFacts}
use Rattle.classes.proofs.TurnTies.{member_set}
use Rattle.classes.specs.Circuits.{IsPulledApart}
use Rattle.classes.proofs.large.split_end.Given.{Over}
use Rattle.classes.proofs.large.split_end.Goals as goal
use Rattle.classes.proofs.large.split_end.Goals.{After-len-lines, After-set-set}

facts : (g : Over) (L : IsField g.F.Field.scalars) (c : After-len-lines g) → TurnFacts g.F.Field.scalars L c.args.family.now c.args.table.now
facts g L c = record {
  problem = rw c.problem.ensures at c.len-lines.ensures.problem;
  family = c.len-members.ensures.family;
  turn = c.requires.turn L;
}

independent : (g : Over) (c : After-set-set g) → IsIndependentSet g.F.Field.scalars c.args.family.now.problem c.args.state.now.set
independent g c = rw c.requires.problem at c.set-set.ensures.independent

pub separator_of-requires-clause-first_within : goal.separator_of-requires-clause-first_within
separator_of-requires-clause-first_within g c = c.requires.split.within

pub separator_of-requires-clause-second_within : goal.separator_of-requires-clause-second_within
separator_of-requires-clause-second_within g c =
    let s = goal.at.separator_of-requires-clause-second_within g c in
    let F = g.met.F.Field.lawful in
    split_within g.F.Field.scalars F c.args.family.now c.args.table.now (facts g F s.After-len-lines) c.args.state.now.set
    (independent g s.After-set-set) c.args.line c.args.other c.requires.split

pub separator_of-requires-clause-table : goal.separator_of-requires-clause-table
separator_of-requires-clause-table g c L = (c.requires.turn L).table

pub separator_of-requires-clause-apart : goal.separator_of-requires-clause-apart
separator_of-requires-clause-apart g c =
    let s = goal.at.separator_of-requires-clause-apart g c in
    let F = g.met.F.Field.lawful in
    split_separated g.F.Field.scalars F c.args.family.now c.args.table.now (facts g F s.After-len-lines) c.args.state.now.set
    (independent g s.After-set-set) c.args.line c.args.other c.requires.split

pub member-target-requires : goal.member-target-requires
member-target-requires g c = (c.separator_of.ensures g.met.F.Field.lawful).within

pub circuits-requires-clause-within : goal.circuits-requires-clause-within
circuits-requires-clause-within g c = rw c.requires.problem c.requires.split.within

pub circuits-requires-clause-target : goal.circuits-requires-clause-target
circuits-requires-clause-target g c =
    rw (c.requires.problem, c.requires.size, c.member-target.ensures.value)
    (member_set g.F.Field.scalars c.args.family.now c.len-members.ensures.family c.separator_of.result (c.separator_of.ensures g.met.F.Field.lawful).within)

pub circuits-requires-clause-apart : goal.circuits-requires-clause-apart
circuits-requires-clause-apart g c L =
    let q = c.requires.split in
    let apart : IsPulledApart g.F.Field.scalars L c.args.family.now.problem (get_or c.args.family.now.sets c.separator_of.result [])
    c.args.state.now.set c.args.line =
    record { exposed = q.exposed; other = c.args.other; in_support = q.in_support; wide = (c.separator_of.ensures L).wide } in
    rw (c.requires.problem, c.member-target.ensures.value) apart

pub returns-in-Larger : goal.returns-in-Larger
returns-in-Larger g c = rw (c.requires.problem, c.requires.size, c.in-Larger.is) at c.in_ok-larger.ensures.end

pub returns-in-Overlapping : goal.returns-in-Overlapping
returns-in-Overlapping g c = rw (c.requires.problem, c.requires.size, c.in-Overlapping.is) at c.in_ok-larger.ensures.end

use Rattle.std.proofs.Common.{[], ◌∙◌, get_or}
use Rattle.std.proofs.lemmas.Result.{IfOk-weaker}
use Rattle.linear_algebra.specs.Scalars.{IsField}
use Rattle.classes.proofs.TurnFacts.{TurnFacts}
use Rattle.classes.proofs.TurnTies.{member_set, of_line_vector, separator_both, separator_first, separator_second}
use Rattle.classes.specs.Missed.{IsMissedOf}
use Rattle.classes.proofs.large.crossing_of.Given.{Over}
use Rattle.classes.proofs.large.crossing_of.Goals as goal
use Rattle.classes.proofs.large.crossing_of.Goals.{After-len-lines, After-as_slice-2}

facts : (g : Over) (L : IsField g.F.Field.scalars) (c : After-len-lines g) → TurnFacts g.F.Field.scalars L c.args.family.now c.args.table.now
facts g L c = record {
  problem = rw c.problem-problem.ensures at c.len-lines.ensures.problem;
  family = c.len-members.ensures.family;
  turn = c.requires.turn L;
}

-- the member that separates the two lines misses a vector of each
first_missed : (g : Over) (c : After-as_slice-2 g) →
    IsMissedOf g.F.Field.scalars c.args.family.now.problem (get_or c.args.family.now.sets c.separator_of.result []) c.args.label c.in_ok-first.first
first_missed g c = rw (c.in_ok-state.ensures.problem, c.in_ok-state.ensures.set, c.problem-problem.ensures, c.member-apart.ensures.value) at c.in_ok-first.ensures

second_missed : (g : Over) (c : After-as_slice-2 g) →
    IsMissedOf g.F.Field.scalars c.args.family.now.problem (get_or c.args.family.now.sets c.separator_of.result []) c.args.line c.in_ok-second.second
second_missed g c = rw (c.in_ok-state.ensures.problem, c.in_ok-state.ensures.set, c.problem-problem.ensures, c.member-apart.ensures.value) at c.in_ok-second.ensures

pub separator_of-requires-clause-table : goal.separator_of-requires-clause-table
separator_of-requires-clause-table g c L = (c.requires.turn L).table

pub member-apart-requires : goal.member-apart-requires
member-apart-requires g c = (c.separator_of.ensures g.met.F.Field.lawful).within

pub started-requires : goal.started-requires
started-requires g c = rw c.problem-problem.ensures c.member-apart.ensures.independent

pub missed_of-requires-clause-within : goal.missed_of-requires-clause-within
missed_of-requires-clause-within g c = rw (c.in_ok-state.ensures.problem, c.problem-problem.ensures) c.requires.label_within

pub missed_of-requires-clause-some : goal.missed_of-requires-clause-some
missed_of-requires-clause-some g c =
    let F = g.met.F.Field.lawful in
    let T = facts g F (goal.at.missed_of-requires-clause-some g c).After-len-lines in
    rw (c.in_ok-state.ensures.problem, c.in_ok-state.ensures.set, c.problem-problem.ensures, c.member-apart.ensures.value)
    (separator_first g.F.Field.scalars F c.args.family.now c.args.table.now T c.args.label c.args.line c.separator_of.result
    c.requires.label_within c.requires.line_within (c.separator_of.ensures F))

pub missed_of-requires-2-clause-within : goal.missed_of-requires-2-clause-within
missed_of-requires-2-clause-within g c = rw (c.in_ok-state.ensures.problem, c.problem-problem.ensures) c.requires.line_within

pub missed_of-requires-2-clause-some : goal.missed_of-requires-2-clause-some
missed_of-requires-2-clause-some g c =
    let F = g.met.F.Field.lawful in
    let T = facts g F (goal.at.missed_of-requires-2-clause-some g c).After-len-lines in
    rw (c.in_ok-state.ensures.problem, c.in_ok-state.ensures.set, c.problem-problem.ensures, c.member-apart.ensures.value)
    (separator_second g.F.Field.scalars F c.args.family.now c.args.table.now T c.args.label c.args.line c.separator_of.result
    c.requires.label_within c.requires.line_within (c.separator_of.ensures F))

pub member_missing-requires-clause-none : goal.member_missing-requires-clause-none
member_missing-requires-clause-none g c = (c.requires.turn g.met.F.Field.lawful).none

pub member-other-requires : goal.member-other-requires
member-other-requires g c = c.in_ok-member_missing.ensures.within

pub missing_both-requires-clause-independent : goal.missing_both-requires-clause-independent
missing_both-requires-clause-independent g c = rw c.problem-problem.ensures c.requires.set.independent

pub missing_both-requires-clause-o_long : goal.missing_both-requires-clause-o_long
missing_both-requires-clause-o_long g c = rw c.problem-problem.ensures c.requires.long

pub missing_both-requires-clause-missed : goal.missing_both-requires-clause-missed
missing_both-requires-clause-missed g c = rw c.problem-problem.ensures c.requires.missed

pub missing_both-requires-clause-apart : goal.missing_both-requires-clause-apart
missing_both-requires-clause-apart g c =
    rw (c.problem-problem.ensures, c.requires.set.size, c.member-apart.ensures.value)
    (member_set g.F.Field.scalars c.args.family.now c.len-members.ensures.family c.separator_of.result (c.separator_of.ensures g.met.F.Field.lawful).within)

pub missing_both-requires-clause-a_long : goal.missing_both-requires-clause-a_long
missing_both-requires-clause-a_long g c =
    let s = goal.at.missing_both-requires-clause-a_long g c in
    let F = g.met.F.Field.lawful in
    let T = facts g F s.After-len-lines in
    rw c.problem-problem.ensures (c.as_slice.ensures.len ∙ (of_line_vector g.F.Field.scalars F c.args.family.now.problem T.problem c.args.label
    c.requires.label_within c.in_ok-first.first (first_missed g s.After-as_slice-2).of_line).length_is)

pub missing_both-requires-clause-b_long : goal.missing_both-requires-clause-b_long
missing_both-requires-clause-b_long g c =
    let s = goal.at.missing_both-requires-clause-b_long g c in
    let F = g.met.F.Field.lawful in
    let T = facts g F s.After-len-lines in
    rw c.problem-problem.ensures (c.as_slice-2.ensures.len ∙ (of_line_vector g.F.Field.scalars F c.args.family.now.problem T.problem c.args.line
    c.requires.line_within c.in_ok-second.second (second_missed g s.After-as_slice-2).of_line).length_is)

pub missing_both-requires-clause-both_missed : goal.missing_both-requires-clause-both_missed
missing_both-requires-clause-both_missed g c =
    let s = goal.at.missing_both-requires-clause-both_missed g c in
    let F = g.met.F.Field.lawful in
    rw (c.problem-problem.ensures, c.member-apart.ensures.value, c.as_slice.ensures.value, c.as_slice-2.ensures.value)
    (separator_both g.F.Field.scalars F c.args.family.now c.args.table.now (facts g F s.After-len-lines) c.args.label c.args.line c.separator_of.result
    c.requires.label_within c.requires.line_within (c.separator_of.ensures F) c.in_ok-first.first c.in_ok-second.second
    (first_missed g s.After-as_slice-2) (second_missed g s.After-as_slice-2))

pub missing_both-requires-clause-other : goal.missing_both-requires-clause-other
missing_both-requires-clause-other g c =
    rw (c.problem-problem.ensures, c.requires.set.size, c.member-other.ensures.value)
    (member_set g.F.Field.scalars c.args.family.now c.len-members.ensures.family c.in_ok-member_missing.field-0 c.in_ok-member_missing.ensures.within)

pub missing_both-requires-clause-u_long : goal.missing_both-requires-clause-u_long
missing_both-requires-clause-u_long g c = rw c.problem-problem.ensures c.requires.part_long

pub missing_both-requires-clause-other_missed : goal.missing_both-requires-clause-other_missed
missing_both-requires-clause-other_missed g c = rw (c.problem-problem.ensures, c.member-other.ensures.value) c.in_ok-member_missing.ensures.missed

pub returns : goal.returns
returns g c =
    let s = (goal.at.returns g c).After-as_slice-2 in
    IfOk-weaker c.missing_both.result _ _
    (λ d told. record {
      first = c.in_ok-first.first;
      second = c.in_ok-second.second;
      of_first = (first_missed g s).of_line;
      of_second = (second_missed g s).of_line;
      tells = rw (c.problem-problem.ensures, c.requires.set.size, c.as_slice.ensures.value, c.as_slice-2.ensures.value) at told;
    })
    c.missing_both.ensures

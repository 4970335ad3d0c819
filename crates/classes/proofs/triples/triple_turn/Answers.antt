use Rattle.std.proofs.Common.{◌≡◌, [], ◌∙◌, get_or, length, map}
use Rattle.linear_algebra.specs.Scalars.{IsField}
use Rattle.classes.proofs.TripleTies.{middle_live, triple_first, triple_second, triple_separated}
use Rattle.classes.proofs.TurnFacts.{TurnFacts}
use Rattle.classes.proofs.TurnTies.{line_long, live_nonzero, member_set, of_line_vector, separator_first}
use Rattle.classes.specs.Missed.{IsMissedOf, IsNonzeroOf}
use Rattle.classes.specs.Turns.{size_of}
use Rattle.classes.proofs.triples.triple_turn.Given.{Over}
use Rattle.classes.proofs.triples.triple_turn.Goals as goal
use Rattle.classes.proofs.triples.triple_turn.Goals.{After-as_slice, After-len-lines, After-nonzero_of-middle}

facts : (g : Over) (L : IsField g.F.Field.scalars) (c : After-len-lines g) → TurnFacts g.F.Field.scalars L c.args.family.now c.args.table.now
facts g L c = record {
  problem = rw c.problem-problem.ensures at c.len-lines.ensures.problem;
  family = c.len-members.ensures.family;
  turn = c.requires.turn L;
}

-- what the member that separates the outer lines misses, and a vector of the middle line
first_missed : (g : Over) (c : After-as_slice g) →
    IsMissedOf g.F.Field.scalars c.args.family.now.problem (get_or c.args.family.now.sets c.separator_of.result []) c.args.triple.first c.in_ok-first.first
first_missed g c = rw (c.in_ok-state.ensures.problem, c.in_ok-state.ensures.set, c.problem-problem.ensures, c.member-apart.ensures.value) at c.in_ok-first.ensures

nonzero : (g : Over) (c : After-nonzero_of-middle g) →
    IsNonzeroOf g.F.Field.scalars c.args.family.now.problem c.args.triple.middle (map g.F.Field.number c.nonzero_of-middle.result.now)
nonzero g c = rw c.problem-problem.ensures at c.nonzero_of-middle.ensures

pub separator_of-requires-clause-first_within : goal.separator_of-requires-clause-first_within
separator_of-requires-clause-first_within g c = c.requires.triple.first_in

pub separator_of-requires-clause-second_within : goal.separator_of-requires-clause-second_within
separator_of-requires-clause-second_within g c = c.requires.triple.last_in

pub separator_of-requires-clause-table : goal.separator_of-requires-clause-table
separator_of-requires-clause-table g c L = (c.requires.turn L).table

pub separator_of-requires-clause-apart : goal.separator_of-requires-clause-apart
separator_of-requires-clause-apart g c =
    let F = g.met.F.Field.lawful in
    triple_separated g.F.Field.scalars F c.args.family.now c.args.table.now
    (facts g F (goal.at.separator_of-requires-clause-apart g c).After-len-lines) c.args.triple c.requires.triple

pub member-apart-requires : goal.member-apart-requires
member-apart-requires g c = (c.separator_of.ensures g.met.F.Field.lawful).within

pub started-requires : goal.started-requires
started-requires g c = rw c.problem-problem.ensures c.member-apart.ensures.independent

pub missed_of-requires-clause-within : goal.missed_of-requires-clause-within
missed_of-requires-clause-within g c = rw (c.in_ok-state.ensures.problem, c.problem-problem.ensures) c.requires.triple.first_in

pub missed_of-requires-clause-some : goal.missed_of-requires-clause-some
missed_of-requires-clause-some g c =
    let F = g.met.F.Field.lawful in
    rw (c.in_ok-state.ensures.problem, c.in_ok-state.ensures.set, c.problem-problem.ensures, c.member-apart.ensures.value)
    (separator_first g.F.Field.scalars F c.args.family.now c.args.table.now (facts g F (goal.at.missed_of-requires-clause-some g c).After-len-lines)
    c.args.triple.first c.args.triple.last c.separator_of.result c.requires.triple.first_in c.requires.triple.last_in (c.separator_of.ensures F))

pub nonzero_of-middle-requires-clause-within : goal.nonzero_of-middle-requires-clause-within
nonzero_of-middle-requires-clause-within g c = rw c.problem-problem.ensures c.requires.triple.middle_in

pub nonzero_of-middle-requires-clause-some : goal.nonzero_of-middle-requires-clause-some
nonzero_of-middle-requires-clause-some g c =
    let S = g.F.Field.scalars in
    let F = g.met.F.Field.lawful in
    let f = c.args.family.now in
    let t = c.args.table.now in
    let T = facts g F (goal.at.nonzero_of-middle-requires-clause-some g c).After-len-lines in
    rw c.problem-problem.ensures
    (live_nonzero S F f t T c.args.triple.middle c.requires.triple.middle_in (middle_live S F f t T c.args.triple c.requires.triple))

pub member_missing-requires-clause-long : goal.member_missing-requires-clause-long
member_missing-requires-clause-long g c =
    let s = goal.at.member_missing-requires-clause-long g c in
    let F = g.met.F.Field.lawful in
    line_long g.F.Field.scalars F c.args.family.now.problem (facts g F s.After-len-lines).problem c.args.triple.middle c.requires.triple.middle_in
    g.F.Field.number c.nonzero_of-middle.result.now (nonzero g s.After-nonzero_of-middle).of_line

pub member_missing-requires-clause-none : goal.member_missing-requires-clause-none
member_missing-requires-clause-none g c = (c.requires.turn g.met.F.Field.lawful).none

pub member_missing-requires-clause-not_zero : goal.member_missing-requires-clause-not_zero
member_missing-requires-clause-not_zero g c =
    (nonzero g (goal.at.member_missing-requires-clause-not_zero g c).After-nonzero_of-middle).not_zero

pub member-other-requires : goal.member-other-requires
member-other-requires g c = c.in_ok-member_missing.ensures.within

pub transit-requires-clause-independent : goal.transit-requires-clause-independent
transit-requires-clause-independent g c = rw c.problem-problem.ensures c.member-other.ensures.independent

pub transit-requires-clause-long : goal.transit-requires-clause-long
transit-requires-clause-long g c =
    let s = goal.at.transit-requires-clause-long g c in
    let F = g.met.F.Field.lawful in
    rw c.problem-problem.ensures
    (line_long g.F.Field.scalars F c.args.family.now.problem (facts g F s.After-len-lines).problem c.args.triple.middle c.requires.triple.middle_in
    g.F.Field.number c.nonzero_of-middle.result.now (nonzero g s.After-nonzero_of-middle).of_line)

pub transit-requires-clause-missed : goal.transit-requires-clause-missed
transit-requires-clause-missed g c = rw (c.problem-problem.ensures, c.member-other.ensures.value) c.in_ok-member_missing.ensures.missed

pub transit-requires-clause-target : goal.transit-requires-clause-target
transit-requires-clause-target g c =
    let S = g.F.Field.scalars in
    let f = c.args.family.now in
    let k = c.len-members.ensures.family in
    let o = c.in_ok-member_missing.field-0 in
    let size : length (get_or f.sets o []) ≡ size_of f = (member_set S f k o c.in_ok-member_missing.ensures.within).size in
    rw (c.problem-problem.ensures, c.member-other.ensures.value, size, c.member-apart.ensures.value)
    (member_set S f k c.separator_of.result (c.separator_of.ensures g.met.F.Field.lawful).within)

pub transit-requires-clause-first_long : goal.transit-requires-clause-first_long
transit-requires-clause-first_long g c =
    let s = goal.at.transit-requires-clause-first_long g c in
    let F = g.met.F.Field.lawful in
    rw c.problem-problem.ensures (c.as_slice.ensures.len ∙ (of_line_vector g.F.Field.scalars F c.args.family.now.problem
    (facts g F s.After-len-lines).problem c.args.triple.first c.requires.triple.first_in c.in_ok-first.first (first_missed g s.After-as_slice).of_line).length_is)

pub returns-in-Larger : goal.returns-in-Larger
returns-in-Larger g c L =
    let S = g.F.Field.scalars in
    let f = c.args.family.now in
    let o = c.in_ok-member_missing.field-0 in
    let size : length (get_or f.sets o []) ≡ size_of f = (member_set S f c.len-members.ensures.family o c.in_ok-member_missing.ensures.within).size in
    rw (c.problem-problem.ensures, c.member-other.ensures.value, size, c.member-apart.ensures.value, c.as_slice.ensures.value, c.in-Larger.is)
    at c.in_ok-larger.ensures

pub returns-in-First : goal.returns-in-First
returns-in-First g c L =
    let s = goal.at.returns-in-First g c in
    let S = g.F.Field.scalars in
    let f = c.args.family.now in
    let m = c.separator_of.result in
    let o = c.in_ok-member_missing.field-0 in
    let size : length (get_or f.sets o []) ≡ size_of f = (member_set S f c.len-members.ensures.family o c.in_ok-member_missing.ensures.within).size in
    triple_first S L f c.args.table.now (facts g L s.After-len-lines) c.args.triple c.requires.triple m o c.in_ok-first.first
    (map g.F.Field.number c.nonzero_of-middle.result.now) (c.separator_of.ensures L) (first_missed g s.After-as_slice) (nonzero g s.After-nonzero_of-middle)
    c.in_ok-member_missing.ensures c.in-First.set
    (rw (c.problem-problem.ensures, c.member-other.ensures.value, size, c.member-apart.ensures.value, c.as_slice.ensures.value, c.in-First.is)
    at c.in_ok-larger.ensures)

pub returns : goal.returns
returns g c L =
    let s = goal.at.returns g c in
    let S = g.F.Field.scalars in
    let f = c.args.family.now in
    let m = c.separator_of.result in
    let o = c.in_ok-member_missing.field-0 in
    let size : length (get_or f.sets o []) ≡ size_of f = (member_set S f c.len-members.ensures.family o c.in_ok-member_missing.ensures.within).size in
    triple_second S L f c.args.table.now (facts g L s.After-len-lines) c.args.triple c.requires.triple m o c.in_ok-first.first
    (map g.F.Field.number c.nonzero_of-middle.result.now) (c.separator_of.ensures L) (first_missed g s.After-as_slice) (nonzero g s.After-nonzero_of-middle)
    c.in_ok-member_missing.ensures c.in-Second.set
    (rw (c.problem-problem.ensures, c.member-other.ensures.value, size, c.member-apart.ensures.value, c.as_slice.ensures.value, c.in-Second.is)
    at c.in_ok-larger.ensures)

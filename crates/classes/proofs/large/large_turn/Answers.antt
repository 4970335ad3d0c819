use Rattle.std.proofs.Common.{◌<◌, [], get_or, length, map}
use Rattle.parity_lines.specs.LineSets.{IsIndependentSet}
use Rattle.classes.proofs.ClassTies.{stray_split}
use Rattle.classes.proofs.LargeTies.{large_below, large_kept, large_nonzero}
use Rattle.classes.proofs.TurnFacts.{TurnFacts}
use Rattle.classes.proofs.TurnTies.{line_long, member_set, not_empty}
use Rattle.classes.specs.Missed.{IsNonzeroOf}
use Rattle.classes.proofs.large.large_turn.Given.{Over}
use Rattle.classes.proofs.large.large_turn.Goals as goal
use Rattle.classes.proofs.large.large_turn.Goals.{After-len-lines, After-nonzero_of-o}

facts : (g : Over) (c : After-len-lines g) → TurnFacts g.F.Field.scalars g.met.F.Field.lawful c.args.family.now c.args.table.now
facts g c = record {
  problem = rw c.problem-problem.ensures at c.len-lines.ensures.problem;
  family = c.len-members.ensures.family;
  turn = c.requires.turn g.met.F.Field.lawful;
}

below : (g : Over) (c : After-len-lines g) → c.args.label < length c.args.family.now.problem.lines
below g c = large_below g.F.Field.scalars g.met.F.Field.lawful c.args.family.now.problem c.args.labels.now c.requires.classes.told.long
    (get_or c.args.family.now.sets 0 []) c.args.class.now c.args.label c.requires.large

nonzero : (g : Over) (c : After-nonzero_of-o g) →
    IsNonzeroOf g.F.Field.scalars c.args.family.now.problem c.args.label (map g.F.Field.number c.nonzero_of-o.result.now)
nonzero g c = rw c.problem-problem.ensures at c.nonzero_of-o.ensures

pub nonzero_of-o-requires-clause-within : goal.nonzero_of-o-requires-clause-within
nonzero_of-o-requires-clause-within g c = rw c.problem-problem.ensures (below g (goal.at.nonzero_of-o-requires-clause-within g c).After-len-lines)

pub nonzero_of-o-requires-clause-some : goal.nonzero_of-o-requires-clause-some
nonzero_of-o-requires-clause-some g c =
    let s = (goal.at.nonzero_of-o-requires-clause-some g c).After-len-lines in
    rw c.problem-problem.ensures (large_nonzero g.F.Field.scalars g.met.F.Field.lawful c.args.family.now c.args.table.now (facts g s)
    c.args.labels.now c.requires.classes (get_or c.args.family.now.sets 0 []) c.args.class.now c.args.label c.requires.large (below g s))

pub member_missing-requires-clause-long : goal.member_missing-requires-clause-long
member_missing-requires-clause-long g c =
    let s = goal.at.member_missing-requires-clause-long g c in
    line_long g.F.Field.scalars g.met.F.Field.lawful c.args.family.now.problem (facts g s.After-len-lines).problem c.args.label
    (below g s.After-len-lines) g.F.Field.number c.nonzero_of-o.result.now (nonzero g s.After-nonzero_of-o).of_line

pub member_missing-requires-clause-none : goal.member_missing-requires-clause-none
member_missing-requires-clause-none g c = (c.requires.turn g.met.F.Field.lawful).none

pub member_missing-requires-clause-not_zero : goal.member_missing-requires-clause-not_zero
member_missing-requires-clause-not_zero g c = (nonzero g (goal.at.member_missing-requires-clause-not_zero g c).After-nonzero_of-o).not_zero

pub member-target-requires : goal.member-target-requires
member-target-requires g c = c.in_ok-member_missing.ensures.within

pub member-requires : goal.member-requires
member-requires g c = not_empty c.args.family.now.sets c.len-members.ensures.family.nonempty

pub started-requires : goal.started-requires
started-requires g c = rw c.problem-problem.ensures c.member.ensures.independent

pub reach-requires-clause-labels : goal.reach-requires-clause-labels
reach-requires-clause-labels g c = rw (c.in_ok-state.ensures.problem, c.problem-problem.ensures) c.requires.classes.told.long

pub reach-requires-clause-target : goal.reach-requires-clause-target
reach-requires-clause-target g c =
    rw (c.in_ok-state.ensures.problem, c.in_ok-state.ensures.set, c.problem-problem.ensures, c.member.ensures.value, c.member-target.ensures.value)
    (member_set g.F.Field.scalars c.args.family.now c.len-members.ensures.family c.in_ok-member_missing.field-0 c.in_ok-member_missing.ensures.within)

pub reach-requires-clause-long : goal.reach-requires-clause-long
reach-requires-clause-long g c =
    let s = goal.at.reach-requires-clause-long g c in
    rw (c.in_ok-state.ensures.problem, c.problem-problem.ensures)
    (line_long g.F.Field.scalars g.met.F.Field.lawful c.args.family.now.problem (facts g s.After-len-lines).problem c.args.label
    (below g s.After-len-lines) g.F.Field.number c.nonzero_of-o.result.now (nonzero g s.After-nonzero_of-o).of_line)

pub reach-requires-clause-missed : goal.reach-requires-clause-missed
reach-requires-clause-missed g c =
    rw (c.in_ok-state.ensures.problem, c.problem-problem.ensures, c.member-target.ensures.value) c.in_ok-member_missing.ensures.missed

pub returns-in-Larger : goal.returns-in-Larger
returns-in-Larger g c L =
    rw (c.in_ok-state.ensures.problem, c.in_ok-state.ensures.set, c.problem-problem.ensures, c.member.ensures.value, c.in-Larger.is) at c.in_ok-larger.ensures.walk

-- the walk ended at a set of as many lines of the same problem
pub split_end-requires-clause-problem : goal.split_end-requires-clause-problem
split_end-requires-clause-problem g c = rw (c.in_ok-larger.ensures.problem, c.in_ok-state.ensures.problem) c.problem-problem.ensures

pub split_end-requires-clause-size : goal.split_end-requires-clause-size
split_end-requires-clause-size g c = rw (c.in_ok-larger.ensures.counts.as_long, c.in_ok-state.ensures.set, c.member.ensures.value)

pub split_end-requires-clause-split : goal.split_end-requires-clause-split
split_end-requires-clause-split g c =
    let S = g.F.Field.scalars in
    let N = c.reach.new.state.set in
    let i : IsIndependentSet S c.args.family.now.problem N =
    rw (c.in_ok-larger.ensures.problem, c.in_ok-state.ensures.problem, c.problem-problem.ensures) at c.set-set.ensures.independent in
    stray_split S g.met.F.Field.lawful c.args.family.now c.args.table.now (facts g (goal.at.split_end-requires-clause-split g c).After-len-lines)
    c.args.labels.now c.requires.classes N i c.in-Stray.line c.in-Stray.other
    (rw (c.in_ok-state.ensures.problem, c.problem-problem.ensures, c.in-Stray.is) at c.in_ok-larger.ensures.walk)

pub spread_turn-requires-clause-problem : goal.spread_turn-requires-clause-problem
spread_turn-requires-clause-problem g c = rw (c.in_ok-larger.ensures.problem, c.in_ok-state.ensures.problem) c.problem-problem.ensures

pub spread_turn-requires-clause-size : goal.spread_turn-requires-clause-size
spread_turn-requires-clause-size g c = rw (c.in_ok-larger.ensures.counts.as_long, c.in_ok-state.ensures.set, c.member.ensures.value)

pub spread_turn-requires-clause-large : goal.spread_turn-requires-clause-large
spread_turn-requires-clause-large g c =
    let S = g.F.Field.scalars in
    let f = c.args.family.now in
    let k = c.len-members.ensures.family in
    let N = c.reach.new.state.set in
    let i : IsIndependentSet S f.problem N =
    rw (c.in_ok-larger.ensures.problem, c.in_ok-state.ensures.problem, c.problem-problem.ensures) at c.set-set-in-Arrived.ensures.independent in
    large_kept S g.met.F.Field.lawful f.problem c.args.labels.now c.requires.classes.told.long (get_or f.sets 0 []) N c.args.class.now c.args.label
    (member_set S f k 0 (not_empty f.sets k.nonempty)).independent.line_set.within i.line_set.within
    (rw (c.in_ok-state.ensures.set, c.member.ensures.value) at c.in_ok-larger.ensures.counts) c.requires.large

pub spread_turn-requires-clause-long : goal.spread_turn-requires-clause-long
spread_turn-requires-clause-long g c =
    let s = goal.at.spread_turn-requires-clause-long g c in
    line_long g.F.Field.scalars g.met.F.Field.lawful c.args.family.now.problem (facts g s.After-len-lines).problem c.args.label
    (below g s.After-len-lines) g.F.Field.number c.nonzero_of-o.result.now (nonzero g s.After-nonzero_of-o).of_line

pub spread_turn-requires-clause-of_label : goal.spread_turn-requires-clause-of_label
spread_turn-requires-clause-of_label g c = nonzero g (goal.at.spread_turn-requires-clause-of_label g c).After-nonzero_of-o

pub spread_turn-requires-clause-missed : goal.spread_turn-requires-clause-missed
spread_turn-requires-clause-missed g c = rw (c.in_ok-state.ensures.problem, c.problem-problem.ensures, c.in-Arrived.is) at c.in_ok-larger.ensures.walk

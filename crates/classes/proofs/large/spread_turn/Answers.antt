use Rattle.std.proofs.Common.{◌∙◌, map, sym}
use Rattle.linear_algebra.specs.Scalars.{IsField}
use Rattle.classes.proofs.ClassTies.{growth_of_spread}
use Rattle.classes.proofs.LargeTies.{crossed_both, crossed_first, crossed_second, label_in_class, large_below, large_counts, large_within, stray_of_class, stray_separated}
use Rattle.classes.proofs.TurnFacts.{TurnFacts}
use Rattle.classes.specs.Ends.{IsSetOf}
use Rattle.classes.specs.Spreads.{IsStrayVector}
use Rattle.classes.specs.Turns.{IsGrowth, size_of}
use Rattle.classes.proofs.large.spread_turn.Given.{Over}
use Rattle.classes.proofs.large.spread_turn.Goals as goal
use Rattle.classes.proofs.large.spread_turn.Goals.{After-as_slice, After-len-lines, After-set-set}

facts : (g : Over) (L : IsField g.F.Field.scalars) (c : After-len-lines g) → TurnFacts g.F.Field.scalars L c.args.family.now c.args.table.now
facts g L c = record {
  problem = rw c.problem.ensures at c.len-lines.ensures.problem;
  family = c.len-members.ensures.family;
  turn = c.requires.turn L;
}

set_of : (g : Over) (c : After-set-set g) → IsSetOf g.F.Field.scalars c.args.family.now.problem (size_of c.args.family.now) c.args.state.now.set
set_of g c = record { independent = rw c.requires.problem at c.set-set.ensures.independent; size = c.requires.size }

stray : (g : Over) (c : After-as_slice g) (L : IsField g.F.Field.scalars) →
    IsStrayVector g.F.Field.scalars L c.args.family.now.problem c.args.labels.now c.args.class.now c.args.label (map g.F.Field.number c.args.o.now)
    c.args.state.now.set c.in-Stray.line c.in-Stray.vector c.in-Stray.part
stray g c L = rw (c.requires.problem, c.in-Stray.is) at (c.in_ok-spread_of.ensures L)

pub spread_of-requires-clause-labels : goal.spread_of-requires-clause-labels
spread_of-requires-clause-labels g c = rw c.requires.problem c.requires.classes.told.long

pub spread_of-requires-clause-within : goal.spread_of-requires-clause-within
spread_of-requires-clause-within g c =
    rw c.requires.problem (large_within g.F.Field.scalars g.met.F.Field.lawful c.args.family.now.problem c.args.labels.now c.requires.classes.told.long
    c.args.state.now.set c.args.class.now c.args.label c.requires.large)

pub spread_of-requires-clause-long : goal.spread_of-requires-clause-long
spread_of-requires-clause-long g c = rw c.requires.problem c.requires.long

pub spread_of-requires-clause-missed : goal.spread_of-requires-clause-missed
spread_of-requires-clause-missed g c = rw c.requires.problem c.requires.missed

pub spread_of-requires-clause-o_in : goal.spread_of-requires-clause-o_in
spread_of-requires-clause-o_in g c L =
    let T = facts g L (goal.at.spread_of-requires-clause-o_in g c).After-len-lines in
    rw c.requires.problem (label_in_class g.F.Field.scalars L c.args.family.now.problem c.args.labels.now c.requires.classes.told.long
    c.args.state.now.set c.args.class.now c.args.label c.requires.large T.problem (map g.F.Field.number c.args.o.now) c.requires.of_label.of_line)

pub spread_of-requires-clause-large : goal.spread_of-requires-clause-large
spread_of-requires-clause-large g c =
    let q = set_of g (goal.at.spread_of-requires-clause-large g c).After-set-set in
    rw c.requires.problem (large_counts g.F.Field.scalars g.met.F.Field.lawful c.args.family.now.problem c.args.labels.now c.requires.classes.told.long
    c.args.state.now.set c.args.class.now c.args.label q.independent.line_set.within c.requires.large)

pub returns-in-Wide : goal.returns-in-Wide
returns-in-Wide g c L =
    let S = g.F.Field.scalars in
    let f = c.args.family.now in
    let s = goal.at.returns-in-Wide g c in
    let growth : IsGrowth S L f.problem (size_of f) c.args.table.now c.args.state.now.set =
    growth_of_spread S L f c.args.table.now (facts g L s.After-len-lines) c.args.labels.now c.requires.classes c.args.label c.args.state.now.set
    (set_of g s.After-set-set) (rw (c.requires.problem, c.in-Wide.is, c.requires.large.is) at (c.in_ok-spread_of.ensures L)) in
    rw (c.in_ok-copied-in-Wide.ensures, c.set.ensures.value) growth

pub crossing_of-requires-clause-set : goal.crossing_of-requires-clause-set
crossing_of-requires-clause-set g c = rw c.set-in-Stray.ensures.value (set_of g (goal.at.crossing_of-requires-clause-set g c).After-set-set)

pub crossing_of-requires-clause-label_within : goal.crossing_of-requires-clause-label_within
crossing_of-requires-clause-label_within g c =
    large_below g.F.Field.scalars g.met.F.Field.lawful c.args.family.now.problem c.args.labels.now c.requires.classes.told.long
    c.args.state.now.set c.args.class.now c.args.label c.requires.large

pub crossing_of-requires-clause-line_within : goal.crossing_of-requires-clause-line_within
crossing_of-requires-clause-line_within g c =
    (stray g (goal.at.crossing_of-requires-clause-line_within g c).After-as_slice g.met.F.Field.lawful).within

pub crossing_of-requires-clause-apart : goal.crossing_of-requires-clause-apart
crossing_of-requires-clause-apart g c =
    let F = g.met.F.Field.lawful in
    let s = goal.at.crossing_of-requires-clause-apart g c in
    stray_separated g.F.Field.scalars F c.args.family.now c.args.table.now (facts g F s.After-len-lines) c.args.labels.now c.requires.classes
    c.args.class.now c.args.state.now.set (map g.F.Field.number c.args.o.now) c.in-Stray.vector c.in-Stray.part c.args.label c.in-Stray.line
    c.requires.large c.requires.of_label (stray g s.After-as_slice F)

pub crossing_of-requires-clause-missed : goal.crossing_of-requires-clause-missed
crossing_of-requires-clause-missed g c = rw c.set-in-Stray.ensures.value c.requires.missed

pub crossing_of-requires-clause-part_long : goal.crossing_of-requires-clause-part_long
crossing_of-requires-clause-part_long g c =
    c.as_slice.ensures.len ∙ (stray g (goal.at.crossing_of-requires-clause-part_long g c).After-as_slice g.met.F.Field.lawful).parted.part.length_is

pub crossing_of-requires-clause-part_not_zero : goal.crossing_of-requires-clause-part_not_zero
crossing_of-requires-clause-part_not_zero g c = λ e.
    (stray g (goal.at.crossing_of-requires-clause-part_not_zero g c).After-as_slice g.met.F.Field.lawful).not_zero (sym c.as_slice.ensures.value ∙ e)

pub returns-in-Larger : goal.returns-in-Larger
returns-in-Larger g c L = rw c.in-Larger.is at c.in_ok-larger-in-Stray.ensures.tells

pub returns-in-First : goal.returns-in-First
returns-in-First g c L =
    let s = goal.at.returns-in-First g c in
    crossed_first g.F.Field.scalars L c.args.family.now c.args.table.now (facts g L s.After-len-lines) c.args.labels.now c.requires.classes
    c.args.class.now c.args.state.now.set (map g.F.Field.number c.args.o.now) c.in-Stray.vector c.in-Stray.part c.args.label c.in-Stray.line
    c.requires.large c.requires.of_label (stray g s.After-as_slice L) c.in_ok-larger-in-Stray.field-0
    (rw c.as_slice.ensures.value at c.in_ok-larger-in-Stray.ensures) c.in-First.set c.in-First.is

pub returns-in-Second : goal.returns-in-Second
returns-in-Second g c L =
    let s = goal.at.returns-in-Second g c in
    crossed_second g.F.Field.scalars L c.args.family.now c.args.table.now (facts g L s.After-len-lines) c.args.labels.now c.requires.classes
    c.args.class.now c.args.state.now.set (map g.F.Field.number c.args.o.now) c.in-Stray.vector c.in-Stray.part c.args.label c.in-Stray.line
    c.requires.large c.requires.of_label (stray g s.After-as_slice L) c.in_ok-larger-in-Stray.field-0
    (rw c.as_slice.ensures.value at c.in_ok-larger-in-Stray.ensures) c.in-Second.set c.in-Second.is

pub last_turn-requires-clause-target : goal.last_turn-requires-clause-target
last_turn-requires-clause-target g c = (rw c.in-Both.is at c.in_ok-larger-in-Stray.ensures.tells).0

pub last_turn-requires-clause-vector_long : goal.last_turn-requires-clause-vector_long
last_turn-requires-clause-vector_long g c =
    c.as_slice-in-Both.ensures.len ∙ (stray g (goal.at.last_turn-requires-clause-vector_long g c).After-as_slice g.met.F.Field.lawful).parted.is_vector.length_is

pub last_turn-requires-clause-of_class : goal.last_turn-requires-clause-of_class
last_turn-requires-clause-of_class g c L =
    rw c.as_slice-in-Both.ensures.value (
    let s = goal.at.last_turn-requires-clause-of_class g c in
    stray_of_class g.F.Field.scalars L c.args.family.now c.args.table.now (facts g L s.After-len-lines) c.args.labels.now c.requires.classes
    c.args.class.now c.args.state.now.set (map g.F.Field.number c.args.o.now) c.in-Stray.vector c.in-Stray.part c.args.label c.in-Stray.line
    c.requires.large c.requires.of_label (stray g s.After-as_slice L))

pub last_turn-requires-clause-lasting : goal.last_turn-requires-clause-lasting
last_turn-requires-clause-lasting g c L =
    rw c.as_slice-in-Both.ensures.value (
    let s = goal.at.last_turn-requires-clause-lasting g c in
    crossed_both g.F.Field.scalars L c.args.family.now c.args.table.now (facts g L s.After-len-lines) c.args.labels.now c.requires.classes
    c.args.class.now c.args.state.now.set (map g.F.Field.number c.args.o.now) c.in-Stray.vector c.in-Stray.part c.args.label c.in-Stray.line
    c.requires.large c.requires.of_label (stray g s.After-as_slice L) c.in_ok-larger-in-Stray.field-0
    (rw c.as_slice.ensures.value at c.in_ok-larger-in-Stray.ensures) c.in-Both.target c.in-Both.is)

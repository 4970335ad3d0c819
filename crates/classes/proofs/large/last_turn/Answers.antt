use Rattle.field_core.proofs.Values.{vector_of_values}
use Rattle.linear_algebra.specs.Scalars.{IsField}
use Rattle.std.proofs.Common.{map}
use Rattle.parity_lines.specs.LineSets.{IsIndependentSet}
use Rattle.classes.proofs.ClassTies.{growth_of_class, stray_split}
use Rattle.classes.proofs.TurnFacts.{TurnFacts}
use Rattle.classes.specs.Turns.{IsGrowth, size_of}
use Rattle.classes.proofs.large.last_turn.Given.{Over}
use Rattle.classes.proofs.large.last_turn.Goals as goal
use Rattle.classes.proofs.large.last_turn.Goals.{After-len-lines}

facts : (g : Over) (L : IsField g.F.Field.scalars) (c : After-len-lines g) → TurnFacts g.F.Field.scalars L c.args.family.now c.args.table.now
facts g L c = record {
  problem = rw c.problem.ensures at c.len-lines.ensures.problem;
  family = c.len-members.ensures.family;
  turn = c.requires.turn L;
}

pub last_exchanges-requires-clause-labels : goal.last_exchanges-requires-clause-labels
last_exchanges-requires-clause-labels g c = rw c.requires.problem c.requires.classes.told.long

pub last_exchanges-requires-clause-target : goal.last_exchanges-requires-clause-target
last_exchanges-requires-clause-target g c = rw (c.requires.problem, c.requires.size) c.requires.target

pub last_exchanges-requires-clause-long : goal.last_exchanges-requires-clause-long
last_exchanges-requires-clause-long g c = rw c.requires.problem c.requires.long

pub last_exchanges-requires-clause-vector_long : goal.last_exchanges-requires-clause-vector_long
last_exchanges-requires-clause-vector_long g c = rw c.requires.problem c.requires.vector_long

pub last_exchanges-requires-clause-lasting : goal.last_exchanges-requires-clause-lasting
last_exchanges-requires-clause-lasting g c L = rw c.requires.problem (c.requires.lasting L)

pub returns-in-Larger : goal.returns-in-Larger
returns-in-Larger g c L = rw (c.requires.problem, c.requires.size, c.in-Larger.is) at c.in_ok-larger.ensures.walk

pub split_end-requires-clause-problem : goal.split_end-requires-clause-problem
split_end-requires-clause-problem g c = rw c.in_ok-larger.ensures.problem c.requires.problem

pub split_end-requires-clause-size : goal.split_end-requires-clause-size
split_end-requires-clause-size g c = rw c.in_ok-larger.ensures.as_long c.requires.size

pub split_end-requires-clause-split : goal.split_end-requires-clause-split
split_end-requires-clause-split g c =
    let S = g.F.Field.scalars in
    let F = g.met.F.Field.lawful in
    let N = c.last_exchanges.new.state.set in
    let i : IsIndependentSet S c.args.family.now.problem N = rw (c.in_ok-larger.ensures.problem, c.requires.problem) at c.set-set.ensures.independent in
    stray_split S F c.args.family.now c.args.table.now (facts g F (goal.at.split_end-requires-clause-split g c).After-len-lines)
    c.args.labels.now c.requires.classes N i c.in-Stray.line c.in-Stray.other (rw (c.requires.problem, c.in-Stray.is) at c.in_ok-larger.ensures.walk)

pub returns-in_ok-copied-in-Arrived : goal.returns-in_ok-copied-in-Arrived
returns-in_ok-copied-in-Arrived g c L =
    let S = g.F.Field.scalars in
    let f = c.args.family.now in
    let n = g.F.Field.number in
    let N = c.last_exchanges.new.state.set in
    let i : IsIndependentSet S f.problem N = rw (c.in_ok-larger.ensures.problem, c.requires.problem) at c.set.ensures.independent in
    let growth : IsGrowth S L f.problem (size_of f) c.args.table.now N =
    growth_of_class S L f c.args.table.now (facts g L (goal.at.returns-in_ok-copied-in-Arrived g c).After-len-lines)
    c.args.labels.now c.requires.classes N (record { independent = i; size = rw c.in_ok-larger.ensures.as_long c.requires.size })
    (map n c.args.o.now) (map n c.args.vector.now)
    (vector_of_values S n g.met.F.Field.is_scalar c.args.o.now f.problem.dimension c.requires.long)
    (vector_of_values S n g.met.F.Field.is_scalar c.args.vector.now f.problem.dimension c.requires.vector_long) (c.requires.of_class L)
    (rw (c.requires.problem, c.in-Arrived.is) at c.in_ok-larger.ensures.walk) in
    rw (c.in_ok-copied-in-Arrived.ensures, c.set.ensures.value) growth

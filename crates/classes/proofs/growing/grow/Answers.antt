use Rattle.std.proofs.lemmas.Result.{IfOk-weaker}
use Rattle.classes.proofs.GrowthTies.{grown_before, grown_by_none, grown_by_set, grown_found, grown_sizes, grown_within}
use Rattle.classes.proofs.TurnFacts.{TurnFacts}
use Rattle.classes.proofs.growing.grow.Given.{Over}
use Rattle.classes.proofs.growing.grow.Goals as goal
use Rattle.classes.proofs.growing.grow.Goals.{After-len-lines}

facts : (g : Over) (c : After-len-lines g) → TurnFacts g.F.Field.scalars g.met.F.Field.lawful c.args.family.now c.args.table.now
facts g c = record {
  problem = rw c.problem.ensures at c.len-lines.ensures.problem;
  family = c.len-member.ensures.family;
  turn = c.requires.turn g.met.F.Field.lawful;
}

pub add-requires-clause-independent : goal.add-requires-clause-independent
add-requires-clause-independent g c = (c.requires.growth g.met.F.Field.lawful).set.independent

pub add-requires-clause-size : goal.add-requires-clause-size
add-requires-clause-size g c =
    let S = g.F.Field.scalars in
    let L = g.met.F.Field.lawful in
    let T = facts g (goal.at.add-requires-clause-size g c).After-len-lines in
    grown_sizes S L c.args.family.now c.args.table.now T c.args.set.now (c.requires.growth L)

pub returns-in_err-add-clause-grows : goal.returns-in_err-add-clause-grows
returns-in_err-add-clause-grows g c =
    let S = g.F.Field.scalars in
    let f = c.args.family.now in
    rw c.in_err-add.ensures.err (grown_by_none S f c.len-member.ensures.family (c.requires.turn g.met.F.Field.lawful).none)

pub take_member-requires-clause-member : goal.take_member-requires-clause-member
take_member-requires-clause-member g c =
    let S = g.F.Field.scalars in
    let L = g.met.F.Field.lawful in
    let T = facts g (goal.at.take_member-requires-clause-member g c).After-len-lines in
    grown_within S L c.args.family.now c.args.table.now T c.args.set.now (c.requires.growth L)
    c.len-member.result c.len-member.ensures.value c.add.new.self c.in_ok-add.ensures.ok

pub take_member-requires-clause-table : goal.take_member-requires-clause-table
take_member-requires-clause-table g c M =
    let S = g.F.Field.scalars in
    let L = g.met.F.Field.lawful in
    let T = facts g (goal.at.take_member-requires-clause-table g c).After-len-lines in
    grown_before S L c.args.family.now c.args.table.now T c.args.set.now (c.requires.growth L)
    c.len-member.result c.len-member.ensures.value c.add.new.self c.in_ok-add.ensures.ok M (c.requires.turn M)

pub returns-clause-grows : goal.returns-clause-grows
returns-clause-grows g c =
    let S = g.F.Field.scalars in
    let L = g.met.F.Field.lawful in
    let f = c.args.family.now in
    rw c.in_ok-add.ensures.ok
    (grown_by_set S f c.len-member.ensures.family (c.requires.turn L).none c.args.set.now (c.requires.growth L).set)

pub returns-clause-found : goal.returns-clause-found
returns-clause-found g c =
    let S = g.F.Field.scalars in
    let L = g.met.F.Field.lawful in
    let T = facts g (goal.at.returns-clause-found g c).After-len-lines in
    IfOk-weaker c.take_member.result _ _
    (λ found m. grown_found S L c.args.family.now c.args.table.now T c.args.set.now (c.requires.growth L)
    c.len-member.result c.len-member.ensures.value c.add.new.self c.in_ok-add.ensures.ok c.take_member.new.table found m)
    c.take_member.ensures

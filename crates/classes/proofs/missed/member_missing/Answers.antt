use Rattle.std.proofs.Common.{map}
use Rattle.field_core.proofs.Values.{vector_of_values}
use Rattle.classes.proofs.MissedTies.{missing_member}
use Rattle.classes.proofs.missed.member_missing.Goals as goal

pub unreachable-requires : goal.unreachable-requires
unreachable-requires g c =
    let S = g.F.Field.scalars in
    let f = c.args.family.now in
    let v = map g.F.Field.number c.args.v.now in
    let w = vector_of_values S g.F.Field.number g.met.F.Field.is_scalar c.args.v.now f.problem.dimension c.requires.long in
    let told = rw c.in-None.is at c.in_ok-member.ensures in
    c.requires.not_zero (c.requires.none v w told)

pub returns : goal.returns
returns g c =
    let S = g.F.Field.scalars in
    let L = g.met.F.Field.lawful in
    let f = c.args.family.now in
    let v = map g.F.Field.number c.args.v.now in
    let w = vector_of_values S g.F.Field.number g.met.F.Field.is_scalar c.args.v.now f.problem.dimension c.requires.long in
    let P = rw c.problem.ensures at c.len-lines.ensures.problem in
    let told = rw c.in-Some.is at c.in_ok-member.ensures in
    missing_member S L f P c.len-members.ensures.family v w c.in-Some.member told

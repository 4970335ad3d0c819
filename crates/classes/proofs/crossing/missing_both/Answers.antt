use Rattle.std.proofs.Common.{map}
use Rattle.classes.proofs.CrossingTies.{missed_turned}
use Rattle.classes.proofs.crossing.missing_both.Goals as goal
use Rattle.field_core.proofs.Values.{vector_of_values}

pub returns-in-First-2 : goal.returns-in-First-2
returns-in-First-2 g c =
    let S = g.F.Field.scalars in
    let p = c.args.problem.now in
    let number = g.F.Field.number in
    let o = map number c.args.o.now in
    let u = map number c.args.u.now in
    let vector = vector_of_values S number g.met.F.Field.is_scalar in
    let told = rw c.in-First-2.is at c.in_ok-larger-in-Second.ensures in
    let set = told.0.independent in (
      record { independent = set; size = rw told.0.size c.requires.other.size },
      missed_turned S g.met.F.Field.lawful p c.len-lines.ensures.problem c.in-First-2.both u o set
          (vector c.args.u.now p.dimension c.requires.u_long) (vector c.args.o.now p.dimension c.requires.o_long) told.1,
    )

pub returns : goal.returns
returns g c =
    let S = g.F.Field.scalars in
    let p = c.args.problem.now in
    let number = g.F.Field.number in
    let o = map number c.args.o.now in
    let b = map number c.args.b.now in
    let in_b = vector_of_values S number g.met.F.Field.is_scalar c.args.b.now p.dimension c.requires.b_long in
    let first = rw c.in-Second.is at c.in_ok-larger.ensures in
    let told = rw c.in-Second-2.is at c.in_ok-larger-in-Second.ensures in (
      record { independent = told.0.independent; size = rw told.0.size c.requires.other.size },
      told.2 b in_b (first.2 b in_b c.requires.both_missed),
    )

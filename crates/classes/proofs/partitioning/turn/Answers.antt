use Rattle.std.proofs.Common.{length, sym, subst}
use Rattle.linear_algebra.proofs.Coordinates.{space}
use Rattle.class_theory.proofs.AkinTables.{akin_symmetric}
use Rattle.parity_lines.proofs.Border.{tuples_at}
use Rattle.classes.proofs.TurnFacts.{TurnFacts}
use Rattle.classes.proofs.TurnTies.{turn_family}
use Rattle.classes.specs.Tables.{akin_at, live_at}
use Rattle.classes.specs.Turns.{AreClasses}
use Rattle.classes.proofs.partitioning.turn.Goals as goal

pub labels_of-requires : goal.labels_of-requires
labels_of-requires g c =
    let S = g.F.Field.scalars in
    let F = g.met.F.Field.lawful in
    let f = c.args.family.now in
    let t = c.args.table.now in
    let h = c.requires F in
    let T : TurnFacts S F f t = record { problem = rw c.problem.ensures at c.len-lines.ensures.problem; family = c.len-members.ensures.family; turn = h } in
    rw h.table.lives.long (akin_symmetric (space S F f.problem.dimension) (tuples_at S F f.problem) f.sets (length f.problem.lines) (live_at t) (akin_at t)
    (turn_family S F f t T).table)

pub triple_turn-requires-clause-triple : goal.triple_turn-requires-clause-triple
triple_turn-requires-clause-triple g c =
    rw (c.in-Violated.is, (c.requires g.met.F.Field.lawful).table.lives.long) at c.in_ok-triple.ensures

pub class_turn-requires-clause-classes : goal.class_turn-requires-clause-classes
class_turn-requires-clause-classes g c =
    let t = c.args.table.now in
    let h = c.requires g.met.F.Field.lawful in
    let told = rw c.in-Exact.is at c.in_ok-triple.ensures in
    subst (AreClasses (length c.args.family.now.problem.lines) (akin_at t)) (sym c.deref.ensures.value)
    (subst (λ n. AreClasses n (akin_at t) c.in-Exact.labels.items) h.table.lives.long (record { told = told.0; exact = told.1 }))

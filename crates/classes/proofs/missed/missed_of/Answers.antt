use Rattle.std.proofs.Common.{◌≡◌, map, sym, subst}
use Rattle.std.proofs.lemmas.Result.{IfOk-weaker}
use Rattle.parity_lines.specs.Problems.{line_at, vectors_at}
use Rattle.classes.proofs.MissedTies.{missed_first, missed_second}
use Rattle.classes.proofs.PacedTies.{found_inside, found_outside}
use Rattle.classes.specs.Missed.{IsMissedOf}
use Rattle.classes.proofs.missed.missed_of.Goals as goal

pub returns-then-is_none : goal.returns-then-is_none
returns-then-is_none g c =
    let S = g.F.Field.scalars in
    let p = c.args.state.now.problem in
    let M = c.args.state.now.set in
    let e = c.args.line in
    let P = rw c.problem-problem.ensures at c.len-lines.ensures.problem in
    let v = map g.F.Field.number c.first-first.result.now in
    let is : v ≡ (line_at p e).0 = rw c.problem-problem.ensures at c.first-first.ensures.value in
    let told = found_outside S p.dimension (vectors_at p M) v c.in_ok-coordinates.field-0 c.if-is_none.ensures c.in_ok-coordinates.ensures in
    IfOk-weaker c.copy_of.result _ _
    (λ row r. subst (IsMissedOf S p M e) (sym r)
    (missed_first S g.met.F.Field.lawful p P M c.set-set.ensures.independent e c.requires.within v is told)) c.copy_of.ensures

pub returns-else-is_none : goal.returns-else-is_none
returns-else-is_none g c =
    let S = g.F.Field.scalars in
    let p = c.args.state.now.problem in
    let M = c.args.state.now.set in
    let e = c.args.line in
    let P = rw c.problem-problem.ensures at c.len-lines.ensures.problem in
    let u = map g.F.Field.number c.first-first.result.now in
    let v = map g.F.Field.number c.second.result.now in
    let first : u ≡ (line_at p e).0 = rw c.problem-problem.ensures at c.first-first.ensures.value in
    let second : v ≡ (line_at p e).1 = rw c.problem-problem.ensures at c.second.ensures.value in
    let told = found_inside S p.dimension (vectors_at p M) u c.in_ok-coordinates.field-0 c.if-is_none.ensures c.in_ok-coordinates.ensures in
    IfOk-weaker c.copy_of-else-is_none.result _ _
    (λ row r. subst (IsMissedOf S p M e) (sym r)
    (missed_second S g.met.F.Field.lawful p P M c.set-set.ensures.independent e c.requires.within v u second first told c.requires.some))
    c.copy_of-else-is_none.ensures

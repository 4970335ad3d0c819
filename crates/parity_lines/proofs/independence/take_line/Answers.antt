use Rattle.std.proofs.Common.{map, refl, subst}
use Rattle.parity_lines.specs.Problems.{line_at}
use Rattle.field_core.proofs.Values.{vector_of_values}
use Rattle.echelon.specs.Inserted.{Inserts}
use Rattle.parity_lines.proofs.IndependentLines.{second_in, first_is_old, second_is_old, line_is_new}
use Rattle.parity_lines.proofs.independence.take_line.Goals as goal

pub returns-in-Old : goal.returns-in-Old
returns-in-Old g c =
    let S = g.F.Field.scalars in
    let f = g.F.Field.number in
    let p = c.args.problem.now in
    let d = p.dimension in
    let u = map f c.first.result.now in
    let v = (line_at p c.at-line.result).1 in
    let second = second_in S g.met.F.Field.lawful p c.len-lines.ensures.problem c.args.set.now c.requires.within c.args.i c.at-line.result c.requires.index c.at-line.ensures in
    let found = subst (λ found. Inserts S c.args.basis.now u c.insert.new.self found) c.in-Old.is c.in_ok-coefficients.ensures.ok in
    first_is_old S g.met.F.Field.lawful p c.len-lines.ensures.problem c.args.set.now c.requires.within g.row.F.Denot c.args.i c.at-line.result u v c.args.basis.now c.insert.new.self
    c.requires.index c.at-line.ensures c.first.ensures.value refl
    (vector_of_values S f g.met.F.Field.is_scalar c.first.result.now d c.first.ensures.long) second
    c.requires.before c.in-Old.coefficients (map f c.as_slice.result.now) c.in_ok-relation.field-0 c.len.result c.len.ensures.value c.as_slice.ensures.value found.0 c.in_ok-relation.ensures

pub returns-in-Old-2 : goal.returns-in-Old-2
returns-in-Old-2 g c =
    let S = g.F.Field.scalars in
    let f = g.F.Field.number in
    let p = c.args.problem.now in
    let d = p.dimension in
    let u = map f c.first.result.now in
    let v = map f c.second.result.now in
    let taken = subst (λ found. Inserts S c.args.basis.now u c.insert.new.self found) c.in_default.is c.in_ok-coefficients.ensures.ok in
    let found = subst (λ found. Inserts S c.insert.new.self v c.insert-2.new.self found) c.in-Old-2.is c.in_ok-coefficients-2.ensures.ok in
    second_is_old S g.met.F.Field.lawful p c.len-lines.ensures.problem c.args.set.now c.requires.within g.row.F.Denot c.args.i c.at-line.result u v c.args.basis.now c.insert.new.self
    c.requires.index c.at-line.ensures c.first.ensures.value c.second.ensures.value
    (vector_of_values S f g.met.F.Field.is_scalar c.first.result.now d c.first.ensures.long) (vector_of_values S f g.met.F.Field.is_scalar c.second.result.now d c.second.ensures.long)
    c.requires.before c.in-Old-2.coefficients (map f c.as_slice-in-Old-2.result.now) c.in_ok-relation-2.field-0 c.len.result c.len.ensures.value c.as_slice-in-Old-2.ensures.value taken found.0 c.in_ok-relation-2.ensures

pub returns : goal.returns
returns g c =
    let S = g.F.Field.scalars in
    let f = g.F.Field.number in
    let p = c.args.problem.now in
    let d = p.dimension in
    let u = map f c.first.result.now in
    let v = map f c.second.result.now in
    let first = subst (λ found. Inserts S c.args.basis.now u c.insert.new.self found) c.in_default.is c.in_ok-coefficients.ensures.ok in
    let second = subst (λ found. Inserts S c.insert.new.self v c.insert-2.new.self found) c.in_default-2.is c.in_ok-coefficients-2.ensures.ok in
    line_is_new S g.met.F.Field.lawful p c.len-lines.ensures.problem c.args.set.now c.requires.within g.row.F.Denot c.args.i c.at-line.result u v c.args.basis.now c.insert.new.self
    c.requires.index c.at-line.ensures c.first.ensures.value c.second.ensures.value
    (vector_of_values S f g.met.F.Field.is_scalar c.first.result.now d c.first.ensures.long) (vector_of_values S f g.met.F.Field.is_scalar c.second.result.now d c.second.ensures.long)
    c.requires.before c.insert-2.new.self first second

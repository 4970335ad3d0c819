use Rattle.std.proofs.Common.{map, subst}
use Rattle.field_core.specs.Matrix.{Matrix}
use Rattle.field_core.proofs.Values.{vector_of_values}
use Rattle.linear_algebra.specs.Spans.{InSpan}
use Rattle.linear_algebra.specs.Vectors.{AreVectors}
use Rattle.linear_algebra.proofs.IndependenceLaws.{pushed_is_outside}
use Rattle.parity_lines.specs.Problems.{vectors_at}
use Rattle.classes.proofs.starting.basis_with.Goals as goal

pub unreachable-requires : goal.unreachable-requires
unreachable-requires g c =
    let S = g.F.Field.scalars in
    let p = c.args.state.now.problem in
    let M = c.args.state.now.set in
    let q = map g.F.Field.number c.args.q.now in
    let is = c.in_ok-basis.ensures in
    let told = rw c.in-Old.is at c.in_ok-insert.ensures.ok in
    pushed_is_outside S g.met.F.Field.lawful p.dimension (vectors_at p M) q
    (subst (λ (m : Matrix). AreVectors S m.width m.rows) is c.rank-rank.ensures.vectors)
    (vector_of_values S g.F.Field.number g.met.F.Field.is_scalar c.args.q.now p.dimension c.requires.long) c.requires.missed
    (subst (λ (m : Matrix). InSpan S m.width m.rows q) is (record { coefficients = c.in-Old.field-0; combine = told.0 }))

pub returns : goal.returns
returns g c =
    let inserted = rw c.in-New.is at c.in_ok-insert.ensures.ok in
    rw (inserted.1, c.in_ok-basis.ensures)

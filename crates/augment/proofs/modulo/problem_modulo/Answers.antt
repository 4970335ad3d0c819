use Rattle.std.proofs.Common.{map, arith}
use Rattle.parity_lines.proofs.LinePairs.{line_at_vectors}
use Rattle.augment.proofs.ProblemsModulo.{modulo_all, modulo_more, projected_long}
use Rattle.augment.proofs.modulo.problem_modulo.Goals as goal

pub push-requires-clause-first_long : goal.push-requires-clause-first_long
push-requires-clause-first_long g c =
    let S = g.F.Field.scalars in
    let p = c.args.problem.now in
    let line = line_at_vectors S p c.loop-line.line c.len-line-end.ensures.problem (omega arith) in
    projected_long S g.met.F.Field.lawful p.dimension c.loop-line.modulo.dimension c.args.quotient.now _
    (map g.F.Field.number c.first.result.now)
    c.in_ok-first.first _ c.requires.vector c.loop-line.invariant.one_less line.0 c.first.ensures.value c.in_ok-first.ensures
    c.as_slice.ensures.len

pub push-requires-clause-second_long : goal.push-requires-clause-second_long
push-requires-clause-second_long g c =
    let S = g.F.Field.scalars in
    let p = c.args.problem.now in
    let line = line_at_vectors S p c.loop-line.line c.len-line-end.ensures.problem (omega arith) in
    projected_long S g.met.F.Field.lawful p.dimension c.loop-line.modulo.dimension c.args.quotient.now _
    (map g.F.Field.number c.second.result.now)
    c.in_ok-second.second _ c.requires.vector c.loop-line.invariant.one_less line.1 c.second.ensures.value c.in_ok-second.ensures
    c.as_slice-in-loop-line.ensures.len

pub loop-line-preserved : goal.loop-line-preserved
loop-line-preserved g c =
    modulo_more g.F.Field.scalars c.args.quotient.now c.args.problem.now c.loop-line.line c.loop-line.modulo c.push.new.self
    c.in_ok-first.first c.in_ok-second.second (map g.F.Field.number c.first.result.now) (map g.F.Field.number c.second.result.now)
    (map g.F.Field.number c.as_slice.result.now) (map g.F.Field.number c.as_slice-in-loop-line.result.now)
    c.loop-line.invariant c.in_ok-push.ensures.ok c.as_slice.ensures.value c.as_slice-in-loop-line.ensures.value
    c.first.ensures.value c.second.ensures.value c.in_ok-first.ensures c.in_ok-second.ensures

pub returns : goal.returns
returns g c =
    modulo_all g.F.Field.scalars c.args.quotient.now c.args.problem.now c.requires.vector c.requires.not_zero c.loop-line.modulo
    c.loop-line.line
    (let e = c.len-line-end.ensures.value in omega arith) c.loop-line.invariant

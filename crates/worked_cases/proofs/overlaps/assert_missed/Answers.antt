use Rattle.std.proofs.Common.{map, subst}
use Rattle.linear_algebra.specs.Spans.{Combines}
use Rattle.parity_lines.specs.Problems.{IsProblem, vectors_at}
use Rattle.worked_cases.proofs.Missed.{missed_where_none}
use Rattle.worked_cases.proofs.overlaps.assert_missed.Goals as goal

pub returns : goal.returns
returns g c =
    let S = g.F.Field.scalars in
    let o = c.args.overlap.now in
    let s = c.args.state.now in
    let P = subst (IsProblem S) c.problem-problem.ensures c.len-lines.ensures.problem in
    let v = map g.F.Field.number c.point.result.now in
    missed_where_none S g.met.F.Field.lawful o.problem s.problem c.requires s.set o.point v c.point.ensures.value P c.set-set.ensures.independent
    c.point.ensures.is_point.vector (λ cs. Combines S s.problem.dimension (vectors_at s.problem s.set) cs v) _ c.in-None.is c.in_ok-found.ensures

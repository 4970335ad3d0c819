use Rattle.std.proofs.Common.{map, arith, []}
use Rattle.overlap.proofs.Combined.{sum_none, first_fits, half_made, second_fits, whole_made}
use Rattle.parity_lines.specs.Problems.{vectors_at}
use Rattle.overlap.proofs.point.combined.Goals as goal

pub loop-i-init : goal.loop-i-init
loop-i-init g c =
    let p = c.args.problem.now in
    sum_none g.F.Field.scalars p.dimension c.dimension.result (vectors_at p []) c.in_ok-sum.sum c.in_ok-sum.ensures c.dimension.ensures

pub add_multiple-requires : goal.add_multiple-requires
add_multiple-requires g c =
    first_fits g.F.Field.scalars g.met.F.Field.lawful c.args.problem.now c.len-lines.ensures.problem c.args.set.now c.requires.within
    g.F.Field.number g.met.F.Field.is_scalar c.args.coefficients.now c.requires.long
    c.loop-i.i (omega arith) c.loop-i.sum c.first.result.now c.loop-i.invariant c.first.ensures.long

pub add_multiple-requires-in-loop-i : goal.add_multiple-requires-in-loop-i
add_multiple-requires-in-loop-i g c =
    let S = g.F.Field.scalars in
    let F = g.met.F.Field.lawful in
    let f = g.F.Field.number in
    let p = c.args.problem.now in
    let P = c.len-lines.ensures.problem in
    let M = c.args.set.now in
    let xs = c.args.coefficients.now in
    let i = c.loop-i.i in
    let half = half_made S F p P M c.requires.within f g.met.F.Field.is_scalar xs c.requires.long i (omega arith) c.loop-i.sum
    c.add_multiple.new.self (map f c.first.result.now) c.index-coefficients-i.result c.at-line.result c.loop-i.invariant
    c.index-coefficients-i.is c.first.ensures.value c.at-line.ensures c.add_multiple.ensures in
    second_fits S F p P M c.requires.within f g.met.F.Field.is_scalar xs c.requires.long i (omega arith) c.add_multiple.new.self
    c.second.result.now half c.second.ensures.long

pub loop-i-preserved : goal.loop-i-preserved
loop-i-preserved g c =
    let S = g.F.Field.scalars in
    let F = g.met.F.Field.lawful in
    let f = g.F.Field.number in
    let p = c.args.problem.now in
    let P = c.len-lines.ensures.problem in
    let M = c.args.set.now in
    let xs = c.args.coefficients.now in
    let i = c.loop-i.i in
    let half = half_made S F p P M c.requires.within f g.met.F.Field.is_scalar xs c.requires.long i (omega arith) c.loop-i.sum
    c.add_multiple.new.self (map f c.first.result.now) c.index-coefficients-i.result c.at-line.result c.loop-i.invariant
    c.index-coefficients-i.is c.first.ensures.value c.at-line.ensures c.add_multiple.ensures in
    whole_made S F p P M c.requires.within f g.met.F.Field.is_scalar xs c.requires.long i (omega arith) c.add_multiple.new.self
    c.add_multiple-in-loop-i.new.self (map f c.second.result.now) c.index-coefficients-i-in-loop-i.result c.at-line.result
    half c.index-coefficients-i-in-loop-i.is c.second.ensures.value c.at-line.ensures c.add_multiple-in-loop-i.ensures

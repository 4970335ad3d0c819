use Rattle.std.proofs.Common.{length, map, subst}
use Rattle.exchanges.specs.StepsToward.{TellsMoved}
use Rattle.overlap.proofs.Raised.{lines_named, within_state, state_never_settles}
use Rattle.overlap.proofs.raising.raise.Goals as goal
use Rattle.parity_lines.specs.Problems.{IsProblem}

pub move_toward-requires-clause-within : goal.move_toward-requires-clause-within
move_toward-requires-clause-within g c =
    let S = g.F.Field.scalars in
    let o = c.args.overlap.now in
    let T = c.in_ok-target.target in
    let q = c.problem-problem.result.now in
    let P = subst (IsProblem S) {x = q} {y = o.problem} c.problem-problem.ensures c.len-lines.ensures.problem in
    let e = c.lines-first.ensures in
    let t = lines_named T o.set c.set.result.now o.first o.second c.lines-first.result.0 c.lines-first.result.1 c.set.ensures.value e.first e.second
    c.in_ok-target.ensures.1 in
    within_state S g.met.F.Field.lawful o.problem P o.set c.set.ensures.independent o.first o.second e.first_within e.second_within e.overlap
    o.point c.point.ensures.is_point T t c.in_ok-state.state q c.args.set.now c.in_ok-state.ensures c.problem-problem.ensures

pub move_toward-requires-clause-width : goal.move_toward-requires-clause-width
move_toward-requires-clause-width g c = rw (c.in_ok-keep.ensures, c.in_ok-state.ensures.problem, c.problem-problem.ensures) c.point.ensures.long

pub move_toward-requires-clause-missed : goal.move_toward-requires-clause-missed
move_toward-requires-clause-missed g c =
    rw (c.in_ok-keep.ensures, c.in_ok-state.ensures.problem, c.in_ok-state.ensures.set, c.problem-problem.ensures, c.point.ensures.value) c.requires.misses

pub unreachable-requires : goal.unreachable-requires
unreachable-requires g c =
    let S = g.F.Field.scalars in
    let o = c.args.overlap.now in
    let T = c.in_ok-target.target in
    let N = c.move_toward.new.state.set in
    let q = c.problem-problem.result.now in
    let keep = c.in_ok-keep.keep in
    let P = subst (IsProblem S) {x = q} {y = o.problem} c.problem-problem.ensures c.len-lines.ensures.problem in
    let e = c.lines-first.ensures in
    let w = c.in_ok-longer.ensures in
    let t = lines_named T o.set c.set.result.now o.first o.second c.lines-first.result.0 c.lines-first.result.1 c.set.ensures.value e.first e.second
    c.in_ok-target.ensures.1 in
    state_never_settles S g.met.F.Field.lawful o.problem P o.set c.set.ensures.independent o.first o.second e.first_within e.second_within e.overlap
    o.point c.point.ensures.is_point T t c.in_ok-state.state q c.args.set.now N keep (map g.F.Field.number c.point.result.now)
    (length c.point.result.now) c.in_ok-state.ensures c.problem-problem.ensures c.in_ok-keep.ensures
    c.point.ensures.value c.requires.as_long w.kept (subst (TellsMoved S c.in_ok-state.state.problem keep.rows T N) c.in-Settled.is w.moved)

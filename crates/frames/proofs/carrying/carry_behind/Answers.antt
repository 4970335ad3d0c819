use Rattle.std.proofs.Common.{◌≡◌, ◌<◌, ◌≤◌, ◌+◌, length, arith}
use Rattle.frames.proofs.Carries.{rows_here, rows_on, rows_there, row_within}
use Rattle.frames.proofs.carrying.carry_behind.Goals as goal

pub loop-at-init : goal.loop-at-init
loop-at-init g c =
    let source : c.args.from < length c.args.rows.now.rows = omega arith in
    rows_here c.args.rows.now c.args.from source

pub swap-requires-clause-first : goal.swap-requires-clause-first
swap-requires-clause-first g c =
    let rows = c.args.rows.now in
    let at = c.loop-at.at in
    let next : at + 1 < length rows.rows = omega arith in
    row_within rows c.loop-at.rows c.args.from at (omega arith) (omega arith) c.loop-at.invariant at (omega arith)

pub swap-requires-clause-second : goal.swap-requires-clause-second
swap-requires-clause-second g c =
    let rows = c.args.rows.now in
    let at = c.loop-at.at in
    let next : at + 1 < length rows.rows = omega arith in
    row_within rows c.loop-at.rows c.args.from at (omega arith) (omega arith) c.loop-at.invariant (at + 1) next

pub loop-at-preserved : goal.loop-at-preserved
loop-at-preserved g c =
    let rows = c.args.rows.now in
    let at = c.loop-at.at in
    let on : c.args.from ≤ at = omega arith in
    let next : at + 1 < length rows.rows = omega arith in
    rows_on rows c.loop-at.rows c.swap.new.self c.args.from at on next c.loop-at.invariant c.swap.ensures

pub returns : goal.returns
returns g c =
    let end : c.loop-at.at ≡ c.args.to = omega arith in
    rows_there c.args.rows.now c.loop-at.rows c.args.from c.loop-at.at c.args.to c.loop-at.invariant end

use Rattle.std.proofs.Common.{◌≡◌, ◌<◌, ◌≤◌, ◌+◌, ◌-◌, length, arith}
use Rattle.frames.proofs.Carries.{rows_here, rows_back, rows_there, row_within}
use Rattle.frames.proofs.carrying.carry_before.Goals as goal

pub loop-at-init : goal.loop-at-init
loop-at-init g c = record { above = c.requires.order; below = omega arith; rows = rows_here c.args.rows.now c.args.from c.requires.within }

pub swap-requires-clause-first : goal.swap-requires-clause-first
swap-requires-clause-first g c =
    let at = c.loop-at.at in
    let near : at < length c.args.rows.now.rows = omega (arith, c.loop-at.invariant.below) in
    row_within c.args.rows.now c.loop-at.rows c.args.from at c.requires.within near c.loop-at.invariant.rows (at - 1) (omega arith)

pub swap-requires-clause-second : goal.swap-requires-clause-second
swap-requires-clause-second g c =
    let at = c.loop-at.at in
    let near : at < length c.args.rows.now.rows = omega (arith, c.loop-at.invariant.below) in
    row_within c.args.rows.now c.loop-at.rows c.args.from at c.requires.within near c.loop-at.invariant.rows at near

pub loop-at-preserved : goal.loop-at-preserved
loop-at-preserved g c =
    let at = c.loop-at.at in
    let more : c.args.to < at = c.loop-at-test.true in
    let low : at ≤ c.args.from = c.loop-at.invariant.below in
    let e : at - 1 + 1 ≡ at = omega arith in
    let back : at - 1 < c.args.from = omega arith in
    record {
      above = omega arith;
      below = omega arith;
      rows = rows_back c.args.rows.now c.loop-at.rows c.swap.new.self c.args.from (at - 1) at e back c.requires.within c.loop-at.invariant.rows c.swap.ensures;
    }

pub returns : goal.returns
returns g c =
    let end : c.loop-at.at ≡ c.args.to = omega (arith, c.loop-at.invariant.above, c.loop-at-test.false) in
    rows_there c.args.rows.now c.loop-at.rows c.args.from c.loop-at.at c.args.to c.loop-at.invariant.rows end

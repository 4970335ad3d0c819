use Rattle.std.proofs.Common.{◌≤◌, arith}
use Rattle.kept_rows.proofs.Turns.{carried-to-end, carried-to-front}
use Rattle.kept_rows.proofs.plain.carry_in.Goals as goal

pub returns-then-from-to-clause-after : goal.returns-then-from-to-clause-after
returns-then-from-to-clause-after g c =
    let order : c.args.from ≤ c.args.to = omega arith in
    carried-to-end c.args.items.now c.rotate_left.new.self c.args.from c.args.to order c.requires.second c.rotate_left.ensures.after

pub returns-else-from-to-clause-after : goal.returns-else-from-to-clause-after
returns-else-from-to-clause-after g c =
    carried-to-front c.args.items.now c.rotate_right.new.self c.args.from c.args.to c.if-from-to.false c.requires.first
    c.rotate_right.ensures.after

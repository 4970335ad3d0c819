use Rattle.std.proofs.Common.{arith, subst}
use Rattle.linear_algebra.proofs.Coordinates.{space}
use Rattle.parity_lines.proofs.Border.{tuples_at}
use Rattle.classes.specs.Tables.{AreLive}
use Rattle.classes.proofs.Liveness.{lives_more, lives_none}
use Rattle.classes.proofs.table.live_lines.Goals as goal

pub loop-line-init : goal.loop-line-init
loop-line-init g c L = lives_none (space g.F.Field.scalars L c.args.problem.now.dimension) (tuples_at g.F.Field.scalars L c.args.problem.now)
    c.new-live.result.items c.new-live.ensures.items

pub loop-line-preserved : goal.loop-line-preserved
loop-line-preserved g c L =
    lives_more (space g.F.Field.scalars L c.args.problem.now.dimension) (tuples_at g.F.Field.scalars L c.args.problem.now) c.loop-line.line
    c.loop-line.live.items c.push.new.self.items c.is_live.result (c.loop-line.invariant L) (c.is_live.ensures L) c.in_ok-push.ensures.items

pub returns : goal.returns
returns g c L =
    subst (λ n. AreLive g.F.Field.scalars L c.args.problem.now n c.loop-line.live.items)
    (let e = c.len-line-end.ensures.value in omega arith) (c.loop-line.invariant L)

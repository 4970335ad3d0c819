use Rattle.std.proofs.Common.{below_more, arith}
use Rattle.classes.specs.Tables.{akin_at}
use Rattle.classes.proofs.LabelLaws.{label_is, label_alone}
use Rattle.classes.proofs.labels.least_akin.Goals as goal

pub returns-then-are_akin : goal.returns-then-are_akin
returns-then-are_akin c = label_is (akin_at c.args.table.now) c.args.line c.loop-i.i (omega arith) (rw c.are_akin.ensures at c.if-are_akin.true)
    c.loop-i.invariant

pub loop-i-preserved : goal.loop-i-preserved
loop-i-preserved c = below_more _ _ c.loop-i.invariant (rw c.are_akin.ensures at c.if-are_akin.false)

pub returns : goal.returns
returns c = label_alone (akin_at c.args.table.now) c.args.line (λ j h. c.loop-i.invariant j (omega arith))

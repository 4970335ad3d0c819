use Rattle.std.proofs.Common.{None}
use Rattle.classes.proofs.TableLaws.{replicate_more}
use Rattle.classes.proofs.table.empty_row.Goals as goal

pub loop-line-preserved : goal.loop-line-preserved
loop-line-preserved c = replicate_more c.loop-line._line None c.loop-line.members.items c.push.new.self.items c.loop-line.invariant
    c.in_ok-push.ensures.items

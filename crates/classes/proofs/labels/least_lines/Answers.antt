use Rattle.classes.specs.Tables.{akin_at}
use Rattle.classes.proofs.LabelLaws.{labels_more, labels_none}
use Rattle.classes.proofs.labels.least_lines.Goals as goal

pub loop-line-init : goal.loop-line-init
loop-line-init c = labels_none (akin_at c.args.table.now) c.new-labels.result.items c.new-labels.ensures.items

pub loop-line-preserved : goal.loop-line-preserved
loop-line-preserved c = labels_more (akin_at c.args.table.now) c.loop-line.line c.least_akin.result c.loop-line.labels.items
    c.push.new.self.items c.loop-line.invariant c.in_ok-push.ensures.items c.least_akin.ensures

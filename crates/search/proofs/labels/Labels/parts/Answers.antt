use Rattle.std.proofs.Common.{length, subst, sym}
use Rattle.search.proofs.PartsBelow.{below_pushed}
use Rattle.search.specs.Below.{ArePartsBelow}
use Rattle.search.proofs.labels.Labels.parts.Goals as goal
use Rattle.search.proofs.labels.Labels.parts.Goals.{then-index-line+in_ok-lines_with+in_ok-push_part, else-index-line}

pub loop-line-preserved : goal.loop-line-preserved
loop-line-preserved c =
    let n = length c.args.self.now.labels.items in
    elim c.if-index-line.branch [
      | then-index-line+in_ok-lines_with+in_ok-push_part w ↦
          subst (ArePartsBelow n) (sym w.parts-is)
          (below_pushed n c.loop-line.parts w.push_part.new.parts w.in_ok-lines_with.field-0
          w.push_part.ensures c.loop-line.invariant w.in_ok-lines_with.ensures)
      | else-index-line w ↦ subst (ArePartsBelow n) (sym w.parts-is) c.loop-line.invariant
    ]

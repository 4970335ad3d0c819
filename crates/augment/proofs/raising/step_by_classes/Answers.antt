use Rattle.augment.proofs.ClassSteps.{best_of_parts, larger_of_classes, overlapping_grown}
use Rattle.augment.proofs.raising.step_by_classes.Goals as goal

pub raised-requires-clause-overlapping : goal.raised-requires-clause-overlapping
raised-requires-clause-overlapping g c =
    let told = rw c.in-Overlapping.is at c.in_ok-parts.ensures.told in
    overlapping_grown g.F.Field.scalars c.args.family.now c.len-members.ensures.family c.partition.new.family c.in_ok-parts.ensures.grows
    c.in-Overlapping.set c.in-Overlapping.first c.in-Overlapping.second (told c.len-members.ensures.family)

pub returns-in-Parts : goal.returns-in-Parts
returns-in-Parts g c =
    let told = rw c.in-Parts.is at c.in_ok-parts.ensures.told in
    best_of_parts g.F.Field.scalars c.args.family.now c.len-members.ensures.family c.new.result c.in-Parts.parts c.dimension.result
    c.problem-problem.result.now c.new.ensures c.dimension.ensures c.problem-problem.ensures (told c.len-members.ensures.family)

pub returns-in-Larger : goal.returns-in-Larger
returns-in-Larger g c =
    let told = rw c.in-Larger.is at c.in_ok-parts.ensures.told in
    larger_of_classes g.F.Field.scalars c.args.family.now c.len-members.ensures.family c.in-Larger.set (told c.len-members.ensures.family)

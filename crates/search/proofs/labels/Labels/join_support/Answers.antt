use Rattle.std.proofs.Common.{length, subst, sym}
use Rattle.search.specs.Notes.{AreOf}
use Rattle.search.proofs.labels.Labels.join_support.Goals as goal
use Rattle.search.proofs.labels.Labels.join_support.Goals.{then-has_component, else-has_component}

pub loop-i-preserved : goal.loop-i-preserved
loop-i-preserved g c =
    let n = length c.args.state.now.problem.lines in
    elim c.if-has_component.branch [
      | then-has_component w ↦ subst (AreOf n) (sym w.self-is) (w.join.ensures n c.loop-i.invariant)
      | else-has_component w ↦ subst (AreOf n) (sym w.self-is) c.loop-i.invariant
    ]

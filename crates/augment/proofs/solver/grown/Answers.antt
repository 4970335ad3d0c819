use Rattle.std.proofs.Common.{◌∙◌}
use Rattle.augment.proofs.NextSets.{fewer_left}
use Rattle.augment.proofs.solver.grown.Goals as goal

pub steps-smaller : goal.steps-smaller
steps-smaller g c =
    let told = rw c.in-Larger.is at c.in_ok-larger.ensures in
    fewer_left g.F.Field.scalars c.args.state.problem c.steps.state.problem c.steps.state.set c.in-Larger.larger.set c.steps.invariant told.1

pub steps-preserved : goal.steps-preserved
steps-preserved g c =
    let told = rw c.in-Larger.is at c.in_ok-larger.ensures in
    told.0 ∙ c.steps.invariant

use Rattle.classes.proofs.SupportTies.{stray_told, support_within}
use Rattle.classes.proofs.supports.stray_of.Goals as goal

pub first_apart-requires : goal.first_apart-requires
first_apart-requires g c =
    let S = g.F.Field.scalars in
    let p = c.args.state.now.problem in
    let M = c.args.state.now.set in
    let h = rw c.in-Some.is at c.in_ok-support.ensures in
    λ m k. rw c.requires.labels (support_within S p M c.set-set.ensures.independent c.args.line c.in-Some.support h m k)

pub returns-in-Some : goal.returns-in-Some
returns-in-Some g c =
    let S = g.F.Field.scalars in
    let p = c.args.state.now.problem in
    let M = c.args.state.now.set in
    let h = rw c.in-Some.is at c.in_ok-support.ensures in
    stray_told S p c.args.labels.now M c.args.line c.in-Some.support c.requires.within h c.first_apart.result c.first_apart.ensures

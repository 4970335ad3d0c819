use Rattle.std.proofs.Common.{rules}
use Rattle.linear_algebra.specs.Spans.{InSpan}
use Rattle.quotients.specs.Subspaces.{HasElements}
use Rattle.families.proofs.Families.{kept_with}
use Rattle.families.proofs.family.Family.add.Goals as goal

pub invariant_of-self-2 : goal.invariant_of-self-2
invariant_of-self-2 g c =
    let S = g.F.Field.scalars in
    let p = c.self.inside.problem.now in
    let m = c.in_ok-member.member in
    let old = c.self.inside.common in
    let new = c.in_ok-common.common in
    let meets : HasElements S new (λ x. InSpan S old.width old.rows x × InSpan S old.width m.span.rows x) = search rules in
    kept_with S p m c.args.set.now c.in_ok-member.ensures.set c.in_ok-member.ensures.span c.self.inside.members.items c.push.new.self.items
    old new c.args.self.now c.self.invariant c.self.view_is c.in_ok-push.ensures.items
    c.requires.independent c.requires.size c.in_ok-common.ensures.width meets

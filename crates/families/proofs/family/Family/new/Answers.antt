use Rattle.families.proofs.Families.{kept_of_one}
use Rattle.families.proofs.family.Family.new.Goals as goal

pub invariant_of-result : goal.invariant_of-result
invariant_of-result g c =
    let m = c.in_ok-member_of.field-0 in
    kept_of_one g.F.Field.scalars c.args.problem.now m c.args.set.now c.in_ok-member_of.ensures.set c.in_ok-member_of.ensures.span c.new-members.result.items
    c.push.new.self.items c.in_ok-common.common c.new-members.ensures.items c.in_ok-push.ensures.items c.requires c.in_ok-common.ensures

use Rattle.std.proofs.Common.{arith, subst}
use Rattle.std.proofs.lemmas.List.{take_all}
use Rattle.classes.specs.Tables.{IsTableOf}
use Rattle.classes.proofs.growing.take_members.Goals as goal

pub returns : goal.returns
returns g c L = subst (λ sets. IsTableOf g.F.Field.scalars L c.args.family.now.problem sets c.loop-member.table)
    (take_all c.loop-member.member c.args.family.now.sets (omega (arith, c.len-member-end.ensures.value))) (c.loop-member.invariant L)

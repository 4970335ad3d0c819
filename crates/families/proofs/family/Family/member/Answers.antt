use Rattle.families.proofs.Families.{set_of_family}
use Rattle.families.proofs.family.Family.member.Goals as goal

pub returns : goal.returns
returns g c =
    let r = set_of_family g.F.Field.scalars c.self.inside.problem.now c.self.inside.members.items c.args.self.now c.args.i
    c.index.result.now c.self.invariant.family c.self.view_is c.requires c.index.ensures in
    record { value = r.0; independent = r.1; size = r.2 }

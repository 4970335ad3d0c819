use Rattle.std.proofs.Common.{map}
use Rattle.quotients.proofs.Kept.{tells_membership}
use Rattle.quotients.proofs.subspace.Subspace.contains.Goals as goal

pub returns : goal.returns
returns g c = tells_membership g.F.Field.scalars g.met.F.Field.lawful c.self.inside.basis c.self.inside.span c.args.self.now (map g.F.Field.number c.args.v.now) c.contains_with.result c.self.invariant c.self.view_is c.contains_with.ensures

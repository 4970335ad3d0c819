use Rattle.quotients.proofs.RowsAt.{set_value}
use Rattle.quotients.proofs.reduction.put_one.Goals as goal

pub returns : goal.returns
returns g c = set_value g.F.Field.number c.args.v.now c.args.position c.one.result g.F.Field.scalars.one c.one.ensures

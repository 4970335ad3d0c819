use Rattle.frames.proofs.Arounds.{became_unit}
use Rattle.frames.proofs.pivoting.become_unit.Goals as goal

pub returns : goal.returns
returns g c =
    became_unit g.F.Field.scalars g.met.F.Field.lawful c.args.list.now c.scale.new.self c.put.new.self (g.F.Field.number c.zero.result) (g.F.Field.number c.one.result) c.args.i
    c.requires.scalars c.zero.ensures c.scale.ensures c.one.ensures c.put.ensures

use Rattle.std.proofs.lemmas.List.{map-set}
use Rattle.kept_rows.proofs.plain.write_at.Goals as goal

pub returns : goal.returns
returns g c = map-set g.F.Field.number c.args.entries.now c.args.i c.args.value

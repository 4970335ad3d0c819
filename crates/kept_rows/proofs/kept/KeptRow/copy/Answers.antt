use Rattle.kept_rows.proofs.Cases.{copied}
use Rattle.kept_rows.proofs.kept.KeptRow.copy.Goals as goal

pub returns : goal.returns
returns g c =
    copied g.F.Field.scalars g.met.F.Field.lawful c.in_ok-row.row c.axpy.new.self c.args.self.now c.len.result
    (g.F.Field.number c.one.result) c.len.ensures.scalars c.in_ok-row.ensures c.len.ensures.value c.one.ensures c.axpy.ensures

use Rattle.kept_rows.proofs.Cases.{zeros_kept}
use Rattle.kept_rows.proofs.kept.KeptRow.zeros.Goals as goal

pub returns-in_ok-bits : goal.returns-in_ok-bits
returns-in_ok-bits g c = zeros_kept g.F.Field.scalars g.met.F.Field.lawful c.in_ok-bits.bits c.args.len c.in_ok-bits.ensures

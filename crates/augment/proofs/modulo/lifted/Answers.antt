use Rattle.std.proofs.Common.{refl}
use Rattle.augment.proofs.LiftedRows.{lifted_certificate}
use Rattle.augment.proofs.modulo.lifted.Goals as goal

pub returns : goal.returns
returns g c = lifted_certificate g.F.Field.scalars c.args.quotient.now c.args.certificate _ c.requires.not_zero c.requires.width
    c.in_ok-lifted_rows.ensures refl

use Rattle.std.proofs.Common.{All, subst}
use Rattle.linear_algebra.specs.Scalars.{IsScalar}
use Rattle.kept_rows.proofs.Bits.{unpacked-in}
use Rattle.kept_rows.proofs.Cases.{packed_view}
use Rattle.kept_rows.proofs.kept.KeptRow.len.Goals as goal

pub returns-in-Packed-clause-scalars : goal.returns-in-Packed-clause-scalars
returns-in-Packed-clause-scalars g c =
    let S = g.F.Field.scalars in
    let bits = c.in-Packed.bits in
    subst (All (IsScalar S))
    (packed_view S g.F.Field.ORDER c.self.inside.entries c.args.self.now c.self.view_is c.self.invariant bits c.in-Packed.is)
    (unpacked-in S g.met.F.Field.lawful bits)

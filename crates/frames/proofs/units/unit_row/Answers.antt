use Rattle.linear_algebra.specs.Vectors.{zero_vector}
use Rattle.frames.proofs.Writes.{within_zeros, entry_written}
use Rattle.frames.proofs.units.unit_row.Goals as goal

pub bounds-as_mut_slice-i : goal.bounds-as_mut_slice-i
bounds-as_mut_slice-i g c =
    within_zeros g.F.Field.number c.as_mut_slice.result.now c.in_ok-row.row c.as_mut_slice.ensures.value c.args.width c.args.i g.F.Field.scalars.zero
    c.in_ok-row.ensures c.requires

pub returns : goal.returns
returns g c =
    entry_written g.F.Field.number c.as_mut_slice.result.now c.in_ok-row.row c.as_mut_slice.ensures.value (zero_vector g.F.Field.scalars c.args.width) c.args.i c.one.result
    g.F.Field.scalars.one c.as_mut_slice.ensures.whole c.in_ok-row.ensures c.one.ensures

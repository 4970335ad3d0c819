use Rattle.std.proofs.Common.{All, subst}
use Rattle.linear_algebra.specs.Scalars.{IsScalar}
use Rattle.field_core.proofs.Values.{numbers_of_values}
use Rattle.kept_rows.proofs.plain.count.Goals as goal

pub returns : goal.returns
returns g c =
    let S = g.F.Field.scalars in
    record {
      value = c.as_slice.ensures.len;
      scalars = subst (All (IsScalar S)) c.as_slice.ensures.value
          (numbers_of_values S g.F.Field.number g.met.F.Field.is_scalar c.as_slice.result.now);
    }

use Rattle.std.proofs.Common.{map, arith}
use Rattle.augment.proofs.CommonPoints.{none_common, row_common}
use Rattle.augment.proofs.recursion.common_point.Goals as goal

pub returns-then-len-eq0-clause-found : goal.returns-then-len-eq0-clause-found
returns-then-len-eq0-clause-found g c =
    none_common g.F.Field.scalars c.args.family.now c.common.result.now c.basis-basis.result.now c.common.ensures.width
    c.common.ensures.elements
    c.basis-basis.ensures.value (omega arith)

pub returns-clause-found : goal.returns-clause-found
returns-clause-found g c =
    row_common g.F.Field.scalars c.args.family.now c.common.result.now c.basis-basis.result.now c.common.ensures.width
    c.common.ensures.elements
    c.basis-basis.ensures.value g.met.F.Field.lawful c.basis-basis.ensures.reduced.vectors c.basis-basis.ensures.independent (omega arith)
    c.in_ok-copy_of.field-0 (map g.F.Field.number c.row.result.now) c.in_ok-copy_of.ensures c.row.ensures.value

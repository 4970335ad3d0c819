use Rattle.std.proofs.Common.{◌≡◌, rules, sym, ◌∙◌}
use Rattle.worked_cases.proofs.NoCommon.{no_common}
use Rattle.worked_cases.proofs.partitions.parted.Goals as goal

pub partition-requires : goal.partition-requires
partition-requires g c =
    let zero : c.rank.result ≡ 0 = search rules in
    no_common g.F.Field.scalars c.args.family.now c.common.result.now c.common.ensures.width c.common.ensures.elements (sym c.rank.ensures.value ∙ zero)

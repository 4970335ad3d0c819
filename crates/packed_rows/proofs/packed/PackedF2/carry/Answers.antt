use Rattle.std.proofs.Common.{◌∙◌}
use Rattle.packed_rows.proofs.Carries.{carried_from_shift}
use Rattle.packed_rows.proofs.packed.PackedF2.carry.Goals as goal

pub returns : goal.returns
returns c =
    c.put.ensures
    ∙ carried_from_shift c.args.self.now c.shift.new.self c.args.from c.args.to c.requires.first c.requires.second
    c.shift.ensures.shifted c.get-value.result.value c.shift.ensures.count c.get-value.ensures

use Rattle.std.proofs.Common.{◌+◌, sym, arith}
use Rattle.small_fields.proofs.Sums.{kept, raised}
use Rattle.small_fields.proofs.residue.ResidueField.add.Goals as goal
use Rattle.small_fields.proofs.residue.ResidueField.add.Goals.{then-sum-ORDER, else-sum-ORDER}

pub returns : goal.returns
returns g c =
    let q = g.P.Prime.ORDER in
    let r = c.new.result.value in
    let s = c.args.self.value + c.args.other.value in
    elim c.if-sum-ORDER.branch [
      | then-sum-ORDER w ↦ sym (kept q r s c.new.result.small (omega arith))
      | else-sum-ORDER w ↦ sym (raised q r s c.new.result.small (omega arith))
    ]

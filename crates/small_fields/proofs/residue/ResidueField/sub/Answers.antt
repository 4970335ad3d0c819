use Rattle.std.proofs.Common.{◌+◌, arith}
use Rattle.small_fields.proofs.Sums.{kept, raised}
use Rattle.small_fields.proofs.residue.ResidueField.sub.Goals as goal
use Rattle.small_fields.proofs.residue.ResidueField.sub.Goals.{then-self-other, else-self-other}

pub returns : goal.returns
returns g c =
    let q = g.P.Prime.ORDER in
    let a = c.args.self.value in
    let s = c.new.result.value + c.args.other.value in
    elim c.if-self-other.branch [
      | then-self-other w ↦ raised q a s c.args.self.small (omega arith)
      | else-self-other w ↦ kept q a s c.args.self.small (omega arith)
    ]

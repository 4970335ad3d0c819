use Rattle.std.proofs.Common.{arith}
use Rattle.small_fields.proofs.Powers.{exponent-below, power-exponent}
use Rattle.small_fields.proofs.byte.logarithm.Goals as goal

pub returns-clause-small : goal.returns-clause-small
returns-clause-small c = exponent-below c.args.byte (omega arith) c.requires

pub returns-clause-power : goal.returns-clause-power
returns-clause-power c = power-exponent c.args.byte (omega arith) c.requires

use Rattle.small_fields.proofs.Powers.{powers-are}
use Rattle.small_fields.proofs.byte.power.Goals as goal

pub returns : goal.returns
returns c = powers-are c.args.exponent c.requires

use Rattle.std.proofs.Common.{arith}
use Rattle.small_fields.proofs.Remainders.{byte_product-remainder}
use Rattle.small_fields.proofs.laws.products_of_bytes_are_remainders.Goals as goal

pub returns : goal.returns
returns c = byte_product-remainder c.args.a c.args.b (omega arith) (omega arith)

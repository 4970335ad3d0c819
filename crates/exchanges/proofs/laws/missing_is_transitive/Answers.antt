use Rattle.exchanges.proofs.TransitiveMissing.{shared_out}
use Rattle.exchanges.proofs.laws.missing_is_transitive.Goals as goal

pub returns : goal.returns
returns c = λ S p M N L q u w F P i j same v m n r s. shared_out S F p P M N L q u w i j same v m n r s

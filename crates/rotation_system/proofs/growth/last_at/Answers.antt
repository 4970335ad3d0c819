use Rattle.std.proofs.Common.{subst}
use Rattle.rotation_system.specs.DartPlaces.{IsPlace}
use Rattle.rotation_system.proofs.growth.last_at.Goals as goal

pub returns : goal.returns
returns c = subst (λ w. IsPlace w c.last.result) c.at.ensures c.last.ensures

use Rattle.std.proofs.Common.{refl}
use Rattle.rotation_theory.specs.Darts.{dart}
use Rattle.rotation_system.proofs.walks.first_dart.Goals as goal

pub returns-clause-value : goal.returns-clause-value
unfolding dart
returns-clause-value c = refl

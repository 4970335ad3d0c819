use Rattle.std.proofs.Common.{length, arith}
use Rattle.rotation_system.proofs.DartSteps.{one_none, one_some}
use Rattle.rotation_system.proofs.rotation.Rotation.components.Goals as goal

pub returns-then-vertices-eq0-clause-value : goal.returns-then-vertices-eq0-clause-value
returns-then-vertices-eq0-clause-value c = one_none (length c.args.self.now.lists) (omega (arith, c.vertices.ensures.value))

pub returns-else-vertices-eq0-clause-value : goal.returns-else-vertices-eq0-clause-value
returns-else-vertices-eq0-clause-value c = one_some (length c.args.self.now.lists) (λ q. omega (arith, q, c.vertices.ensures.value))

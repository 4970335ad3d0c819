use Rattle.std.proofs.Common.{ap, ◌∙◌, arith}
use Rattle.graph_theory.specs.Walks.{edge_at}
use Rattle.rotation_theory.specs.Darts.{edge}
use Rattle.rotation_system.proofs.DartSteps.{tail_even, tail_odd}
use Rattle.rotation_system.proofs.rotation.Rotation.tail.Goals as goal

pub ends-ends-requires : goal.ends-ends-requires
unfolding edge
ends-ends-requires c = c.requires

pub returns-then-dart-eq0-clause-value : goal.returns-then-dart-eq0-clause-value
returns-then-dart-eq0-clause-value c = ap (λ p. p.0) c.ends-ends.ensures.value ∙ tail_even (edge_at c.args.self.now.ends) c.args.dart
    (omega arith)

pub returns-else-dart-eq0-clause-value : goal.returns-else-dart-eq0-clause-value
returns-else-dart-eq0-clause-value c = ap (λ p. p.1) c.ends-ends.ensures.value
    ∙ tail_odd (edge_at c.args.self.now.ends) c.args.dart (λ q. omega (arith, q))

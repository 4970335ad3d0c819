use Rattle.std.proofs.Common.{◌∙◌, arith}
use Rattle.graph_theory.specs.Walks.{edge_at}
use Rattle.rotation_theory.specs.Darts.{rev}
use Rattle.rotation_system.proofs.DartSteps.{even_enters, even_leaves, odd_enters, odd_leaves}
use Rattle.rotation_system.proofs.TwoFaces.{apart_turned}
use Rattle.rotation_system.proofs.rotation.Rotation.join_faces.Goals as goal

pub put_between-requires-clause-first_end : goal.put_between-requires-clause-first_end
put_between-requires-clause-first_end c = c.requires.near_end ∙ even_leaves (edge_at c.args.self.now.ends) c.args.dart c.args.second
    c.requires.dart
    (omega arith)

pub put_between-requires-clause-second_end : goal.put_between-requires-clause-second_end
put_between-requires-clause-second_end c = c.requires.far_end ∙ even_enters (edge_at c.args.self.now.ends) c.args.dart c.args.second
    c.requires.dart
    (omega arith)

pub put_between-requires-else-dart-eq0-clause-first_end : goal.put_between-requires-else-dart-eq0-clause-first_end
put_between-requires-else-dart-eq0-clause-first_end c = c.requires.far_end ∙ odd_enters (edge_at c.args.self.now.ends) c.args.dart
    c.args.second
    c.requires.dart (λ q. omega (arith, q))

pub put_between-requires-else-dart-eq0-clause-second_end : goal.put_between-requires-else-dart-eq0-clause-second_end
put_between-requires-else-dart-eq0-clause-second_end c = c.requires.near_end ∙ odd_leaves (edge_at c.args.self.now.ends) c.args.dart
    c.args.second
    c.requires.dart (λ q. omega (arith, q))

pub put_between-requires-else-dart-eq0-clause-apart : goal.put_between-requires-else-dart-eq0-clause-apart
put_between-requires-else-dart-eq0-clause-apart c = apart_turned c.args.self.now.lists (rev c.args.near) (rev c.args.far) c.requires.apart

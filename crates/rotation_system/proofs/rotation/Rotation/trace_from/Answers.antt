use Rattle.std.proofs.Common.{arith}
use Rattle.rotation_system.proofs.Systems.{dart_below}
use Rattle.rotation_system.proofs.rotation.Rotation.trace_from.Goals as goal

pub is_seen-requires : goal.is_seen-requires
is_seen-requires c = omega (
  arith,
  dart_below c.args.self.now c.vertices-vertices.ensures.system c.args.dart c.requires.held,
  c.requires.long,
)

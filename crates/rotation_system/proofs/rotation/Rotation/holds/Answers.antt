use Rattle.std.proofs.Common.{ap}
use Rattle.rotation_system.proofs.Systems.{dart_counted}
use Rattle.rotation_system.proofs.rotation.Rotation.holds.Goals as goal

pub returns : goal.returns
returns c = dart_counted c.args.self.now c.vertices-vertices.ensures.system c.args.edge c.ends.result.0 c.darts.result.now
    c.first_dart.result
    c.stands.result c.ends.ensures.first_vertex (ap (λ p. p.0) c.ends.ensures.value) c.darts.ensures.value c.first_dart.ensures.value
    c.stands.ensures

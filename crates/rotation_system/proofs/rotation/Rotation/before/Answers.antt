use Rattle.rotation_system.proofs.Systems.{edge_below, next_arc, stands_there}
use Rattle.rotation_system.proofs.rotation.Rotation.before.Goals as goal

pub tail-requires : goal.tail-requires
tail-requires c = edge_below c.args.self.now c.vertices-vertices.ensures.system c.args.dart c.requires

pub previous-requires : goal.previous-requires
previous-requires c = stands_there c.args.self.now c.vertices-vertices.ensures.system c.args.dart c.tail.result c.darts.result.now
    c.requires
    c.tail.ensures.value c.darts.ensures.value

pub returns : goal.returns
returns c = next_arc c.args.self.now c.vertices-vertices.ensures.system c.previous.result c.args.dart c.tail.result c.darts.result.now
    c.tail.ensures.vertex c.darts.ensures.value c.previous.ensures

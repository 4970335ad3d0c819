use Rattle.rotation_system.proofs.TwoFaces.{split_apart}
use Rattle.rotation_system.proofs.rotation.Rotation.split_face.Goals as goal

pub returns-clause-apart : goal.returns-clause-apart
returns-clause-apart c = split_apart c.args.self.now c.vertices-vertices.ensures.system c.args.first c.requires.first c.requires.new
    c.requires.one_face
    c.last_at-first_after.result c.last_at-second_after.result c.put_edge.new.self.lists c.in_ok-put_edge.ensures.put

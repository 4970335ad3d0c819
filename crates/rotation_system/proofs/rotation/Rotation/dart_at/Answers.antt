use Rattle.rotation_system.proofs.PairsPut.{first_held, first_tail, vertex_held}
use Rattle.rotation_system.proofs.rotation.Rotation.dart_at.Goals as goal

pub bounds-darts-0 : goal.bounds-darts-0
bounds-darts-0 c = vertex_held c.args.self.now c.vertices-vertices.ensures.system c.args.vertex c.requires.vertex c.darts.result.now
    c.darts.ensures.value c.requires.some

pub returns-clause-held : goal.returns-clause-held
returns-clause-held c = first_held c.args.self.now c.vertices-vertices.ensures.system c.args.vertex c.requires.vertex c.darts.result.now
    c.darts.ensures.value (vertex_held c.args.self.now c.vertices-vertices.ensures.system c.args.vertex c.requires.vertex
    c.darts.result.now
    c.darts.ensures.value c.requires.some)

pub returns-clause-tail : goal.returns-clause-tail
returns-clause-tail c = first_tail c.args.self.now c.vertices-vertices.ensures.system c.args.vertex c.requires.vertex c.darts.result.now
    c.darts.ensures.value (vertex_held c.args.self.now c.vertices-vertices.ensures.system c.args.vertex c.requires.vertex
    c.darts.result.now
    c.darts.ensures.value c.requires.some)

use Rattle.std.proofs.Common.{ap, arith, length}
use Rattle.rotation_theory.specs.Darts.{edge}
use Rattle.rotation_theory.proofs.Darts.{edge_rev}
use Rattle.rotation_system.proofs.PairsPut.{holds_both, not_held, one_held}
use Rattle.rotation_system.proofs.TwoFaces.{apart_at}
use Rattle.rotation_system.proofs.rotation.Rotation.insert_meeting.Goals as goal

pub reverse-requires : goal.reverse-requires
reverse-requires c = omega (arith, c.meeting_darts-p.ensures.second, c.requires.second_edge, c.vertices-vertices.ensures.system.few)

pub tail-requires : goal.tail-requires
tail-requires c = omega (
  arith,
  ap edge c.reverse.ensures,
  edge_rev c.meeting_darts-p.result.1,
  c.meeting_darts-p.ensures.second,
  c.requires.second_edge,
  ap length c.in_ok-split_face.ensures.held.ends,
)

pub dart_at-far-requires-clause-some : goal.dart_at-far-requires-clause-some
dart_at-far-requires-clause-some c = one_held c.args.self.now c.split_face.new.self c.args.first c.in_ok-split_face.ensures.held

pub corner_apart-requires-clause-apart : goal.corner_apart-requires-clause-apart
corner_apart-requires-clause-apart c = apart_at c.split_face.new.self.lists c.args.first c.meeting_darts-p.result.0
    c.meeting_darts-p.ensures.first
    c.in_ok-split_face.ensures.apart

pub join_faces-requires-clause-new : goal.join_faces-requires-clause-new
join_faces-requires-clause-new c = not_held c.args.self.now c.split_face.new.self c.args.first c.args.second
    c.in_ok-split_face.ensures.held
    c.requires.different c.requires.second_new

pub returns-clause-held : goal.returns-clause-held
returns-clause-held c = holds_both c.args.self.now c.split_face.new.self c.join_faces.new.self c.args.first c.args.second
    c.in_ok-split_face.ensures.held c.in_ok-join_faces.ensures.held

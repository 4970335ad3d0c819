use Rattle.std.proofs.Common.{◌≤◌, sym, subst, arith}
use Rattle.edge_lists.specs.Occurrences.{count_all}
use Rattle.graph_theory.specs.Walks.{edge_at}
use Rattle.rotation_theory.specs.Darts.{rev}
use Rattle.rotation_theory.proofs.Vertices.{arcs_placed}
use Rattle.rotation_system.specs.Traces.{AreOnOneFace}
use Rattle.rotation_system.proofs.Systems.{edge_below, rev_held, system_distinct}
use Rattle.rotation_system.proofs.TwoFaces.{apart_held, corner_before, corner_here}
use Rattle.rotation_system.proofs.rotation.Rotation.corner_apart.Goals as goal

pub reverse-requires : goal.reverse-requires
reverse-requires c = omega (
  arith,
  edge_below c.args.self.now c.vertices-vertices.ensures.system c.args.far c.requires.far,
  c.vertices-vertices.ensures.system.few,
)

pub on_one_face-requires-clause-first : goal.on_one_face-requires-clause-first
on_one_face-requires-clause-first c = apart_held c.args.self.now.lists (system_distinct c.args.self.now
    c.vertices-vertices.ensures.system) c.args.dart
    c.requires.apart

pub on_one_face-requires-clause-second : goal.on_one_face-requires-clause-second
on_one_face-requires-clause-second c = subst (λ d. 1 ≤ count_all d c.args.self.now.lists) (sym c.reverse.ensures)
    (rev_held c.args.self.now c.vertices-vertices.ensures.system c.args.far c.requires.far)

pub before-requires : goal.before-requires
before-requires c = apart_held c.args.self.now.lists (system_distinct c.args.self.now c.vertices-vertices.ensures.system) c.args.dart
    c.requires.apart

pub returns-then-branch-clause-apart : goal.returns-then-branch-clause-apart
returns-then-branch-clause-apart c = corner_here c.args.self.now.lists (system_distinct c.args.self.now
    c.vertices-vertices.ensures.system) c.args.dart
    c.requires.apart (rev c.args.far) (subst (AreOnOneFace c.args.self.now.lists c.args.dart (rev c.args.far)) c.if-branch.true
    (subst (λ x. AreOnOneFace c.args.self.now.lists c.args.dart x c.in_ok-on_one_face.field-0) c.reverse.ensures
    c.in_ok-on_one_face.ensures))

pub returns-else-branch-clause-tail : goal.returns-else-branch-clause-tail
returns-else-branch-clause-tail c = arcs_placed (edge_at c.args.self.now.ends) 0 c.before-else-branch.result c.args.dart
    c.args.self.now.lists
    c.vertices-vertices.ensures.system.rotation.placed c.before-else-branch.ensures

pub returns-else-branch-clause-apart : goal.returns-else-branch-clause-apart
returns-else-branch-clause-apart c = corner_before c.args.self.now.lists (system_distinct c.args.self.now
    c.vertices-vertices.ensures.system) c.args.dart
    c.requires.apart (rev c.args.far) c.before-else-branch.result (subst (AreOnOneFace c.args.self.now.lists c.args.dart
    (rev c.args.far)) c.if-branch.false
    (subst (λ x. AreOnOneFace c.args.self.now.lists c.args.dart x c.in_ok-on_one_face.field-0) c.reverse.ensures
    c.in_ok-on_one_face.ensures))
    (rev_held c.args.self.now c.vertices-vertices.ensures.system c.args.far
    c.requires.far) c.before-else-branch.ensures

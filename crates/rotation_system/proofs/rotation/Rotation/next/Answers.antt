use Rattle.std.proofs.Common.{◌≡◌, ◌≤◌, ℕ, sym, subst, arith}
use Rattle.edge_lists.specs.Occurrences.{count_all}
use Rattle.rotation_theory.specs.CyclicLists.{arcs}
use Rattle.rotation_theory.specs.Darts.{rev}
use Rattle.rotation_system.specs.RotationSystems.{IsRotationSystem, RotationSystem}
use Rattle.rotation_system.proofs.Systems.{edge_below, next_arc, rev_held, stands_there}
use Rattle.rotation_system.proofs.rotation.Rotation.next.Goals as goal

reverse_held : (r : RotationSystem) → IsRotationSystem r → (d e : ℕ) → e ≡ rev d → 1 ≤ count_all d r.lists → 1 ≤ count_all e r.lists
reverse_held r I d e q i = subst (λ x. 1 ≤ count_all x r.lists) (sym q) (rev_held r I d i)

pub reverse-reverse-requires : goal.reverse-reverse-requires
reverse-reverse-requires c = omega (
  arith,
  edge_below c.args.self.now c.vertices-vertices.ensures.system c.args.dart c.requires,
  c.vertices-vertices.ensures.system.few,
)

pub tail-requires : goal.tail-requires
tail-requires c = edge_below c.args.self.now c.vertices-vertices.ensures.system c.reverse-reverse.result
    (reverse_held c.args.self.now c.vertices-vertices.ensures.system c.args.dart c.reverse-reverse.result c.reverse-reverse.ensures
    c.requires)

pub after-requires : goal.after-requires
after-requires c = stands_there c.args.self.now c.vertices-vertices.ensures.system c.reverse-reverse.result c.tail.result
    c.darts.result.now
    (reverse_held c.args.self.now c.vertices-vertices.ensures.system c.args.dart c.reverse-reverse.result c.reverse-reverse.ensures
    c.requires)
    c.tail.ensures.value c.darts.ensures.value

pub returns : goal.returns
returns c = subst (λ x. 1 ≤ arcs x c.after.result c.args.self.now.lists) c.reverse-reverse.ensures
    (next_arc c.args.self.now c.vertices-vertices.ensures.system c.reverse-reverse.result c.after.result c.tail.result c.darts.result.now
    c.tail.ensures.vertex c.darts.ensures.value c.after.ensures)

use Rattle.std.proofs.Common.{◌+◌, ◌*◌, ◌≤◌, ℕ, [], IsTrue, false, below_more, get_or, length, subst, sym, ap, ◌∙◌, arith}
use Rattle.std.proofs.lemmas.List.{length-replicate}
use Rattle.graph_theory.specs.Walks.{edge_at}
use Rattle.edge_lists.specs.Occurrences.{count}
use Rattle.rotation_theory.specs.Genus.{HasFaces}
use Rattle.rotation_system.specs.RotationSystems.{held}
use Rattle.rotation_system.specs.Traces.{AreTraced, is_marked}
use Rattle.rotation_system.proofs.DartSteps.{empties_le, stands_in}
use Rattle.rotation_system.proofs.FaceTraces.{all_traced, start_traced}
use Rattle.rotation_system.proofs.Systems.{dart_below, system_distinct}
use Rattle.rotation_system.proofs.rotation.Rotation.faces.Goals as goal

pub loop-vertex-init : goal.loop-vertex-init
loop-vertex-init c = record {
  long = ap length c.in_ok-seen.ensures ∙ length-replicate (2 * c.edges.result) false ∙ ap (λ n. 2 * n) c.edges.ensures;
  traced = subst (λ s. AreTraced c.args.self.now.lists s 0) (sym c.in_ok-seen.ensures) (start_traced (edge_at c.args.self.now.ends)
      (length c.args.self.now.lists) (held c.args.self.now) c.args.self.now.lists c.vertices-vertices.ensures.system.rotation
      (2 * c.edges.result));
  marked = λ v l. absurd (omega arith);
}

pub overflow_add-traced : goal.overflow_add-traced
overflow_add-traced c =
    let T = c.trace_at-traced.ensures.traced c.loop-vertex.traced c.loop-vertex.invariant.traced in
    omega (arith, T.few, c.trace_at-traced.ensures.long, c.loop-vertex.invariant.long, c.vertices-vertices.ensures.system.few)

pub overflow_add-result : goal.overflow_add-result
overflow_add-result c = omega (
  arith,
  c.loop-vertex.invariant.traced.few,
  c.loop-vertex.invariant.long,
  c.vertices-vertices.ensures.system.few,
  c.vertices-vertices.ensures.system.vertices,
  c.empties.ensures,
  empties_le c.args.self.now.lists,
)

pub loop-vertex-preserved : goal.loop-vertex-preserved
loop-vertex-preserved c = record {
  long = c.trace_at-traced.ensures.long ∙ c.loop-vertex.invariant.long;
  traced = c.trace_at-traced.ensures.traced c.loop-vertex.traced c.loop-vertex.invariant.traced;
  marked = below_more
      (λ v. (d : ℕ) → 1 ≤ count d (get_or c.args.self.now.lists v []) → IsTrue (is_marked c.trace_at-traced.new.seen.items d))
      c.loop-vertex.vertex
      (λ v l d i. c.trace_at-traced.ensures.kept d (c.loop-vertex.invariant.marked v l d i)) c.trace_at-traced.ensures.marked;
}

pub returns : goal.returns
returns c = subst (λ e. HasFaces c.args.self.now.lists (c.loop-vertex.traced + e)) (sym c.empties.ensures)
    (all_traced c.args.self.now.lists (system_distinct c.args.self.now c.vertices-vertices.ensures.system) c.loop-vertex.seen.items
    c.loop-vertex.traced c.loop-vertex.invariant.traced (λ d i.
    let k = stands_in d c.args.self.now.lists i in
    let l = k.1 in (
      omega (arith, dart_below c.args.self.now c.vertices-vertices.ensures.system d i, c.loop-vertex.invariant.long),
      c.loop-vertex.invariant.marked k.0 (omega (arith, l, c.vertices-vertex-end.ensures.value)) d k.2,
    )))

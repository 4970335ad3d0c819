use Rattle.std.proofs.Common.{◌≡◌, ◌*◌, ◌<◌, ◌≤◌, ℕ, Bool, List, replicate, false, get_or, length, subst, sym, ap, ◌∙◌, arith}
use Rattle.std.proofs.lemmas.List.{get_or-replicate, length-replicate}
use Rattle.graph_theory.specs.Walks.{edge_at}
use Rattle.edge_lists.specs.Occurrences.{count_all}
use Rattle.rotation_system.specs.RotationSystems.{IsRotationSystem, RotationSystem, held}
use Rattle.rotation_system.specs.Traces.{AreOnOneFace, AreTraced}
use Rattle.rotation_system.proofs.FaceTraces.{on_one_walk, start_traced}
use Rattle.rotation_system.proofs.Systems.{dart_below}
use Rattle.rotation_system.proofs.rotation.Rotation.on_one_face.Goals as goal

pub trace_face-requires-clause-long : goal.trace_face-requires-clause-long
trace_face-requires-clause-long c = ap length c.in_ok-seen.ensures ∙ length-replicate (2 * c.edges.result) false
    ∙ ap (λ n. 2 * n) c.edges.ensures

pub trace_face-requires-clause-new : goal.trace_face-requires-clause-new
trace_face-requires-clause-new c = ap (λ s. get_or s c.args.first false) c.in_ok-seen.ensures
    ∙ get_or-replicate (2 * c.edges.result) c.args.first false false
    (omega (arith, dart_below c.args.self.now c.vertices-vertices.ensures.system c.args.first c.requires.first, c.edges.ensures))

below : (r : RotationSystem) → IsRotationSystem r → (n : ℕ) (seen new : List Bool) → n ≡ length r.ends → seen ≡ replicate (2 * n) false
    → length new ≡ length seen → (d : ℕ) → 1 ≤ count_all d r.lists → d < length new
below r I n seen new q e l d i = omega (arith, dart_below r I d i, l, ap length e, length-replicate (2 * n) false, q)

pub is_seen-requires : goal.is_seen-requires
is_seen-requires c = below c.args.self.now c.vertices-vertices.ensures.system c.edges.result c.in_ok-seen.seen.items
    c.trace_face.new.seen.items
    c.edges.ensures c.in_ok-seen.ensures c.trace_face.ensures.long c.args.second c.requires.second

pub returns : goal.returns
returns c =
    let L = c.args.self.now.lists in
    let new = c.trace_face.new.seen.items in
    let I = c.vertices-vertices.ensures.system in
    let b : (d : ℕ) → 1 ≤ count_all d L → d < length new = below c.args.self.now I c.edges.result c.in_ok-seen.seen.items new
    c.edges.ensures c.in_ok-seen.ensures c.trace_face.ensures.long in
    subst (AreOnOneFace L c.args.first c.args.second) (sym c.is_seen.ensures)
    (on_one_walk L new c.args.first c.args.second (c.trace_face.ensures.traced 0
    (subst (λ s. AreTraced L s 0) (sym c.in_ok-seen.ensures) (start_traced (edge_at c.args.self.now.ends) (length L)
    (held c.args.self.now) L
    I.rotation (2 * c.edges.result))))
    (b c.args.first c.requires.first) (b c.args.second c.requires.second) c.trace_face.ensures.marked)

use Rattle.std.proofs.Common.{◌≡◌, ◌+◌, ◌<◌, inl, inr, IsTrue, length, refl, true, sym, ap, subst, ◌∙◌, arith}
use Rattle.std.proofs.lemmas.List.{length-set}
use Rattle.rotation_theory.specs.Darts.{rev}
use Rattle.rotation_system.specs.Traces.{is_marked, unmarked}
use Rattle.rotation_system.proofs.FaceTraces.{begin_walk, begun_more, end_walk, marks_kept, next_held, set_fewer, walk_step}
use Rattle.rotation_system.proofs.Systems.{dart_below, system_distinct}
use Rattle.rotation_system.proofs.rotation.Rotation.trace_face.Goals as goal

pub walk-init : goal.walk-init
walk-init c = record {
  long = refl;
  kept = λ d h. h;
  begun = inl refl;
  held = c.requires.held;
  walk = λ n T. begin_walk c.args.self.now.lists c.args.seen.now.items n c.args.dart T c.requires.held
      (omega (arith, dart_below c.args.self.now c.vertices-vertices.ensures.system c.args.dart c.requires.held, c.requires.long))
      c.requires.new;
}

pub is_seen-requires : goal.is_seen-requires
is_seen-requires c = omega (
  arith,
  dart_below c.args.self.now c.vertices-vertices.ensures.system c.walk.at c.walk.invariant.held,
  c.requires.long,
  c.walk.invariant.long,
)

pub mark-requires : goal.mark-requires
mark-requires c = omega (
  arith,
  dart_below c.args.self.now c.vertices-vertices.ensures.system c.walk.at c.walk.invariant.held,
  c.requires.long,
  c.walk.invariant.long,
)

pub walk-preserved : goal.walk-preserved
walk-preserved c =
    let L = c.args.self.now.lists in
    let s = c.walk.seen.items in
    let x = c.walk.at in
    let b = c.next-at.result in
    let l : x < length s = omega (
      arith,
      dart_below c.args.self.now c.vertices-vertices.ensures.system x c.walk.invariant.held,
      c.requires.long,
      c.walk.invariant.long,
    ) in record {
      long = ap length c.mark.ensures ∙ length-set s x true ∙ c.walk.invariant.long;
      kept = λ d h. subst (λ m. IsTrue (is_marked m d)) (sym c.mark.ensures) (marks_kept s x l d (c.walk.invariant.kept d h));
      begun = inr (begun_more s c.mark.new.seen.items x c.args.dart l c.mark.ensures c.walk.invariant.begun);
      held = next_held (rev x) b L c.next-at.ensures;
      walk = λ n T. walk_step L (system_distinct c.args.self.now c.vertices-vertices.ensures.system) s n c.args.dart x l b
          c.mark.new.seen.items
          (sym c.walk-test.ensures) c.mark.ensures c.next-at.ensures (c.walk.invariant.walk n T);
    }

pub walk-smaller : goal.walk-smaller
walk-smaller c =
    let l : c.walk.at < length c.walk.seen.items = omega (
      arith,
      dart_below c.args.self.now c.vertices-vertices.ensures.system c.walk.at c.walk.invariant.held,
      c.requires.long,
      c.walk.invariant.long,
    ) in
    let e : unmarked c.mark.new.seen.items + 1 ≡ unmarked c.walk.seen.items = ap (λ m. unmarked m + 1) c.mark.ensures
    ∙ set_fewer c.walk.seen.items c.walk.at l (sym c.walk-test.ensures) in
    omega (arith, e)

pub returns-clause-traced : goal.returns-clause-traced
returns-clause-traced c = λ n T.
    end_walk c.args.self.now.lists (system_distinct c.args.self.now c.vertices-vertices.ensures.system) c.walk.seen.items n c.args.dart
    c.walk.at
    (omega (
      arith,
      dart_below c.args.self.now c.vertices-vertices.ensures.system c.walk.at c.walk.invariant.held,
      c.requires.long,
      c.walk.invariant.long,
    ))
    (sym c.walk-test.ensures) (c.walk.invariant.walk n T)

pub returns-clause-marked : goal.returns-clause-marked
returns-clause-marked c = elim c.walk.invariant.begun [
  | inl q ↦ subst (λ d. IsTrue (is_marked c.walk.seen.items d)) q (sym c.walk-test.ensures)
  | inr h ↦ h
]

use Rattle.std.proofs.Common.{◌≡◌, ◌+◌, ◌<◌, ◌≤◌, ℕ, [], IsTrue, List, below_more, get_or, length, refl, subst, sym, ◌∙◌, arith}
use Rattle.edge_lists.specs.Occurrences.{count}
use Rattle.rotation_system.specs.Traces.{AreTraced, is_marked}
use Rattle.rotation_system.proofs.DartSteps.{count_in, counted_at, index_counted}
use Rattle.rotation_system.proofs.rotation.Rotation.trace_at.Goals as goal

stands : (w s : List ℕ) (i : ℕ) → s ≡ w → i < length s → 1 ≤ count (get_or s i 0) w
stands w s i q l = subst (λ t. 1 ≤ count (get_or s i 0) t) q (counted_at (get_or s i 0) i s l refl)

pub trace_from-traced-requires-clause-held : goal.trace_from-traced-requires-clause-held
trace_from-traced-requires-clause-held c = omega (
  arith,
  stands (get_or c.args.self.now.lists c.args.vertex []) c.darts-darts.result.now c.loop-i.i c.darts-darts.ensures.value (omega arith),
  count_in (get_or c.darts-darts.result.now c.loop-i.i 0) c.args.vertex c.args.self.now.lists c.requires.vertex,
)

pub loop-i-preserved : goal.loop-i-preserved
loop-i-preserved c = record {
  long = c.trace_from-traced.ensures.long ∙ c.loop-i.invariant.long;
  few = omega (arith, c.trace_from-traced.ensures.few, c.loop-i.invariant.few);
  traced = λ n T. subst (AreTraced c.args.self.now.lists c.trace_from-traced.new.seen.items) (omega arith)
      (c.trace_from-traced.ensures.traced (n + c.loop-i.traced) (c.loop-i.invariant.traced n T));
  kept = λ d h. c.trace_from-traced.ensures.kept d (c.loop-i.invariant.kept d h);
  marked = below_more _ _ (λ k l. c.trace_from-traced.ensures.kept (get_or c.darts-darts.result.now k 0) (c.loop-i.invariant.marked k l))
      c.trace_from-traced.ensures.marked;
}

pub returns-clause-marked : goal.returns-clause-marked
returns-clause-marked c = λ d i.
    let r = index_counted d c.darts-darts.result.now (subst (λ t. 1 ≤ count d t) (sym c.darts-darts.ensures.value) i) in
    let l = r.1 in
    subst (λ x. IsTrue (is_marked c.loop-i.seen.items x)) r.2 (c.loop-i.invariant.marked r.0 (omega arith))

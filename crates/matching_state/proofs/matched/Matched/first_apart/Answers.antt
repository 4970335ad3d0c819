use Rattle.std.proofs.Common.{◌≢◌, All, take_all, subst, sym, arith}
use Rattle.std.specs.Prelude.{slice_index}
use Rattle.std.proofs.lemmas.List.Elements.{All-get_or, All-more}
use Rattle.matching_state.specs.Overlaps.{InSupport}
use Rattle.matching_state.specs.Sights.{IsSeen}
use Rattle.matching_state.specs.declared.step.Entry.{Entry}
use Rattle.matching_state.proofs.PairTests.{false_is_not}
use Rattle.matching_state.proofs.matched.Matched.first_apart.Goals as goal
use Rattle.matching_state.proofs.matched.Matched.first_apart.Goals.{else-x-class-via-then-x-class+else-has_component, else-x-class-via-else-x-class}

pub has_component-requires : goal.has_component-requires
has_component-requires g c =
    let s = c.args.self.now in
    let xs = c.args.entries.now in
    record {
      seen = subst (λ x. IsSeen g.F.Field.scalars g.F.Field.number s.problem s.set x.exposed) (sym c.x-item.is)
          (All-get_or (λ x. IsSeen g.F.Field.scalars g.F.Field.number s.problem s.set x.exposed) xs c.loop-x.x-index c.x-item.result c.loop-x-test.true c.requires.seen);
      index = c.requires.index;
    }

pub loop-x-preserved : goal.loop-x-preserved
loop-x-preserved g c =
    let s = c.args.self.now in
    let P : Entry g.row.F.Denot → Type 0 = λ x. x.class ≢ c.args.class → ¬ (InSupport g.F.Field.scalars s.problem s.set x.exposed.line (slice_index s.set c.args.i)) in
    All-more P c.args.entries.now c.loop-x.x-index c.x-item.result c.loop-x-test.true c.loop-x.invariant
    (subst P c.x-item.is (elim c.else-x-class.branch as (λ _. P c.x-item.result) [
      | else-x-class-via-then-x-class+else-has_component w ↦ λ n k. false_is_not w.has_component.result w.if-has_component.false (w.has_component.ensures.1 k)
      | else-x-class-via-else-x-class w ↦ λ n. absurd (n w.if-x-class.false)
    ]))

pub returns : goal.returns
returns g c =
    let s = c.args.self.now in
    let P : Entry g.row.F.Denot → Type 0 = λ x. x.class ≢ c.args.class → ¬ (InSupport g.F.Field.scalars s.problem s.set x.exposed.line (slice_index s.set c.args.i)) in
    let stop = c.loop-x-test.false in
    subst (All P) (take_all c.loop-x.x-index c.args.entries.now (omega arith)) c.loop-x.invariant

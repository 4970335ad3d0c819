use Rattle.std.proofs.Common.{All, take_all, subst, sym, arith}
use Rattle.std.specs.Prelude.{slice_index}
use Rattle.std.proofs.lemmas.List.Elements.{All-get_or, All-more}
use Rattle.matching_state.specs.Overlaps.{InSupport}
use Rattle.matching_state.specs.Sights.{IsSeen}
use Rattle.matching_state.specs.declared.step.Entry.{Entry}
use Rattle.matching_state.proofs.PairTests.{false_is_not}
use Rattle.matching_state.proofs.matched.Matched.first_at.Goals as goal

pub has_component-requires : goal.has_component-requires
has_component-requires g c =
    let s = c.args.self.now in
    let xs = c.args.entries.now in
    record {
      seen = subst (λ x. IsSeen g.F.Field.scalars g.F.Field.number s.problem s.set x.exposed) (sym c.x-item.is)
          (All-get_or (λ x. IsSeen g.F.Field.scalars g.F.Field.number s.problem s.set x.exposed) xs c.loop-x.x-index c.x-item.result c.loop-x-test.true c.requires.seen);
      index = c.requires.index;
    }

pub returns-then-has_component : goal.returns-then-has_component
returns-then-has_component g c = ((c.loop-x.x-index, c.loop-x-test.true, sym c.x-item.is), c.has_component.ensures.0 c.if-has_component.true)

pub loop-x-preserved : goal.loop-x-preserved
loop-x-preserved g c =
    let s = c.args.self.now in
    let P : Entry g.row.F.Denot → Type 0 = λ x. ¬ (InSupport g.F.Field.scalars s.problem s.set x.exposed.line (slice_index s.set c.args.i)) in
    All-more P c.args.entries.now c.loop-x.x-index c.x-item.result c.loop-x-test.true c.loop-x.invariant
    (subst P c.x-item.is (λ k. false_is_not c.has_component.result c.if-has_component.false (c.has_component.ensures.1 k)))

pub returns : goal.returns
returns g c =
    let s = c.args.self.now in
    let P : Entry g.row.F.Denot → Type 0 = λ x. ¬ (InSupport g.F.Field.scalars s.problem s.set x.exposed.line (slice_index s.set c.args.i)) in
    let stop = c.loop-x-test.false in
    subst (All P) (take_all c.loop-x.x-index c.args.entries.now (omega arith)) c.loop-x.invariant

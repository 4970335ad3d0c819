use Rattle.std.proofs.Common.{All, take_all, subst, sym, arith}
use Rattle.std.proofs.lemmas.List.Elements.{All-get_or, All-more}
use Rattle.matching_state.specs.Sights.{Cross, IsSeen}
use Rattle.matching_state.specs.declared.step.Entry.{Entry}
use Rattle.matching_state.proofs.PairTests.{false_is_not}
use Rattle.matching_state.proofs.matched.Matched.first_across.Goals as goal

pub crosses-requires : goal.crosses-requires
crosses-requires g c =
    let s = c.args.self.now in
    let xs = c.args.entries.now in
    record {
      first = c.requires.first;
      second = subst (λ x. IsSeen g.F.Field.scalars g.F.Field.number s.problem s.set x.exposed) (sym c.x-item.is)
          (All-get_or (λ x. IsSeen g.F.Field.scalars g.F.Field.number s.problem s.set x.exposed) xs c.loop-x.x-index c.x-item.result c.loop-x-test.true c.requires.seen);
      index = c.requires.index;
    }

pub returns-then-crosses : goal.returns-then-crosses
returns-then-crosses g c = ((c.loop-x.x-index, c.loop-x-test.true, sym c.x-item.is), c.crosses.ensures.0 c.if-crosses.true)

pub loop-x-preserved : goal.loop-x-preserved
loop-x-preserved g c =
    let s = c.args.self.now in
    let P : Entry g.row.F.Denot → Type 0 = λ x. ¬ (Cross g.F.Field.scalars g.F.Field.number s.problem s.set c.args.first x.exposed c.args.i) in
    All-more P c.args.entries.now c.loop-x.x-index c.x-item.result c.loop-x-test.true c.loop-x.invariant
    (subst P c.x-item.is (λ k. false_is_not c.crosses.result c.if-crosses.false (c.crosses.ensures.1 k)))

pub returns : goal.returns
returns g c =
    let s = c.args.self.now in
    let P : Entry g.row.F.Denot → Type 0 = λ x. ¬ (Cross g.F.Field.scalars g.F.Field.number s.problem s.set c.args.first x.exposed c.args.i) in
    let stop = c.loop-x-test.false in
    subst (All P) (take_all c.loop-x.x-index c.args.entries.now (omega arith)) c.loop-x.invariant

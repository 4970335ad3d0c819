use Rattle.std.proofs.Common.{true≢false, refl, sym, arith}
use Rattle.matching_state.proofs.PairTests.{differ_test}
use Rattle.matching_state.proofs.TailLaws.{multiple_by_entries, read_of_multiple}
use Rattle.matching_state.proofs.sights.is_multiple_from.Goals as goal

pub returns-then-ne : goal.returns-then-ne
returns-then-ne g c =
    let S = g.F.Field.scalars in
    let f = g.F.Field.number c.args.factor in
    let i = c.loop-i.i in
    let t = differ_test g.F.PartialEq.eq g.F.Field.number g.met.F.Field.equals c.get.result c.mul.result c.ne.result c.ne.ensures in
    let inside = c.loop-i-test.true in
    let long = c.len-i-end.ensures in (
      λ h. absurd (true≢false (sym h)),
      λ q. absurd (t.0 c.if-ne.true (read_of_multiple S f c.args.from c.args.row.now c.args.other.now q i c.loop-i.auto.i (omega arith)
          (g.F.Field.number c.get.result) (g.F.Field.number c.get-in-loop-i.result) (g.F.Field.number c.mul.result) c.get.ensures c.get-in-loop-i.ensures c.mul.ensures)),
    )

pub returns : goal.returns
returns g c =
    let S = g.F.Field.scalars in
    let stop = c.loop-i-test.false in
    let long = c.len-i-end.ensures in (
      λ t. multiple_by_entries S (g.F.Field.number c.args.factor) c.args.from c.args.row.now c.args.other.now c.requires (λ j l h. c.loop-i.invariant j l (omega arith)),
      λ q. refl,
    )

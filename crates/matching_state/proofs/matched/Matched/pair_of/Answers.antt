use Rattle.std.proofs.Common.{length, below_more, ap, ◌∙◌, arith}
use Rattle.matching_state.proofs.matched.Matched.pair_of.Goals as goal

pub loop-i-preserved : goal.loop-i-preserved
loop-i-preserved g c = below_more _ _ c.loop-i.invariant c.in_default.ensures

pub returns : goal.returns
returns g c = λ i h.
    let stop = c.loop-i-test.false in
    let count = c.len-i-end.ensures.value ∙ ap length c.set.ensures.value in
    c.loop-i.invariant i (omega arith)

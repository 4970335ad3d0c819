use Rattle.std.proofs.Common.{◌≡◌, drop, subst}
use Rattle.linear_algebra.specs.Vectors.{multiple}
use Rattle.matching_state.proofs.PairTests.{false_is_not}
use Rattle.matching_state.proofs.TailLaws.{factor_read}
use Rattle.matching_state.proofs.sights.ratio_from.Goals as goal

pub returns-else-is_multiple_from : goal.returns-else-is_multiple_from
returns-else-is_multiple_from g c = λ factor hf q.
    let S = g.F.Field.scalars in
    let n = g.F.Field.number in
    let is_scalar = g.met.F.Field.is_scalar in
    let row = c.args.row.now in
    let lead = c.args.lead in
    let same : factor ≡ n c.mul-factor.result = factor_read S g.met.F.Field.lawful factor c.args.from row c.args.other.now hf q lead c.requires.from c.requires.lead
    (n c.get-2.result) (n c.in_ok-inverse.field-0) (n c.get.result) (n c.mul-factor.result) (is_scalar c.get-2.result) (is_scalar c.in_ok-inverse.field-0)
    c.get-2.ensures c.in_ok-inverse.ensures.some c.get.ensures c.mul-factor.ensures in
    false_is_not c.is_multiple_from.result c.if-is_multiple_from.false (c.is_multiple_from.ensures.1 (subst (λ f. drop c.args.from c.args.other.now ≡ multiple S f (drop c.args.from row)) same q))

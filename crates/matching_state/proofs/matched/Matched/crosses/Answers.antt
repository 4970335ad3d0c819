use Rattle.matching_state.proofs.CrossLaws.{cross_told}
use Rattle.matching_state.proofs.Kept.{kept_problem}
use Rattle.matching_state.proofs.PairTests.{differ_test}
use Rattle.matching_state.proofs.matched.Matched.crosses.Goals as goal

pub returns : goal.returns
returns g c =
    let S = g.F.Field.scalars in
    let F = g.met.F.Field.lawful in
    let n = g.F.Field.number in
    let s = c.args.self.now in
    let K = c.set-set.ensures.kept in
    let x = c.requires.first in
    let y = c.requires.second in
    let p = c.tip_pair-a.ensures x.tip x.coordinates x.rest in
    let q = c.tip_pair-c.ensures y.tip y.coordinates y.rest in
    let t = differ_test g.F.PartialEq.eq n g.met.F.Field.equals c.mul.result c.mul-2.result c.ne.result c.ne.ensures in
    cross_told S F s.problem (kept_problem S F s K) s.set K.independent n g.met.F.Field.is_scalar c.args.i c.requires.index c.args.first x c.args.second y
    (n c.tip_pair-a.result.0) (n c.tip_pair-a.result.1) (n c.tip_pair-c.result.0) (n c.tip_pair-c.result.1) (n c.mul.result) (n c.mul-2.result) c.ne.result p q c.mul.ensures c.mul-2.ensures t

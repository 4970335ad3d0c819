use Rattle.std.proofs.Common.{arith, length, ap, subst}
use Rattle.std.specs.Prelude.{MatchOption}
use Rattle.linear_algebra.proofs.Coordinates.{space}
use Rattle.parity_lines.proofs.Border.{tuples_at}
use Rattle.parity_lines.specs.Problems.{ParityProblem}
use Rattle.parity_theory.proofs.Lines.{IsFree}
use Rattle.classes.proofs.DirectionLaws.{no_directions, one_direction_more}
use Rattle.classes.specs.Directions.{AreDirections, IsDirection}
use Rattle.classes.proofs.direction.directions.Goals as goal

pub loop-line-init : goal.loop-line-init
loop-line-init g c L = no_directions g.F.Field.scalars L c.args.state.now.problem c.args.state.now.set c.new-found.result.items c.new-found.ensures.items

pub loop-line-preserved : goal.loop-line-preserved
loop-line-preserved g c L =
    let S = g.F.Field.scalars in
    let p = c.args.state.now.problem in
    let M = c.args.state.now.set in
    one_direction_more S L p M c.loop-line.line c.loop-line.found.items c.push.new.self.items c.in-Some.direction (c.loop-line.invariant L)
    (subst (λ o. MatchOption o (IsFree (space S L p.dimension) (tuples_at S L p) M c.loop-line.line) (IsDirection S L p M c.loop-line.line))
    c.in-Some.is (c.in_ok-direction.ensures L)) c.in_ok-push-in-Some.ensures.items

pub returns : goal.returns
returns g c L = subst (λ n. AreDirections g.F.Field.scalars L c.args.state.now.problem c.args.state.now.set n c.loop-line.found.items)
    (let e = c.len-line-end.ensures.value in let k = ap (λ (q : ParityProblem). length q.lines) c.problem.ensures in omega arith) (c.loop-line.invariant L)

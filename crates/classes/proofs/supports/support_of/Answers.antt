use Rattle.std.proofs.Common.{subst}
use Rattle.classes.proofs.SupportTies.{support_told}
use Rattle.matching_state.specs.LinePlaces.{IsPlace}
use Rattle.parity_lines.specs.Problems.{IsProblem}
use Rattle.classes.proofs.supports.support_of.Goals as goal

pub returns-in-Exposed : goal.returns-in-Exposed
returns-in-Exposed g c =
    let S = g.F.Field.scalars in
    let p = c.args.state.now.problem in
    let P = subst (IsProblem S) c.problem.ensures c.len-lines.ensures.problem in
    let place = subst (IsPlace S p c.args.state.now.set c.args.line) c.in-Exposed.is c.in_ok-support.ensures in
    support_told S g.met.F.Field.lawful p P c.args.state.now.set c.set-set.ensures.independent c.args.line c.requires place.0
    c.in-Exposed.tip place.2.0 c.in-Exposed.support place.2.1 place.2.2

use Rattle.std.proofs.Common.{subst}
use Rattle.parity_lines.specs.Certificates.{IsGoodAnswer}
use Rattle.parity_lines.specs.Problems.{ParityProblem}
use Rattle.augment.proofs.PartOrder.{good_answer_in_order, parts_increase}
use Rattle.augment.proofs.solver.SolverMaximizer.largest.Goals as goal

pub returns-clause-good : goal.returns-clause-good
returns-clause-good g c =
    let S = g.F.Field.scalars in
    let found = c.in_ok-answer.answer in
    let made = subst (λ (p : ParityProblem). IsGoodAnswer S p found.set found.certificate.kernel found.certificate.parts)
    c.in_ok-greedy_state.ensures c.in_ok-answer.ensures in
    good_answer_in_order S c.args.problem.now found.certificate.kernel found.certificate.parts c.in_ok-parts.parts c.in_ok-parts.ensures.same
    found.set made

pub returns-clause-order : goal.returns-clause-order
returns-clause-order g c =
    let S = g.F.Field.scalars in
    let found = c.in_ok-answer.answer in
    let good = returns-clause-good g c in
    parts_increase S c.args.problem.now found.certificate.kernel c.in_ok-parts.parts good.certificate c.in_ok-parts.ensures.sorted

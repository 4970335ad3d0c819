use Rattle.std.proofs.Common.{subst}
use Rattle.cert_check.specs.Verdicts.{IsFaultIn}
use Rattle.cert_check.proofs.Judged.{fault_told}
use Rattle.cert_check.proofs.judging.verdict_by_parts.Goals as goal

pub returns-in-Some : goal.returns-in-Some
returns-in-Some g c =
    let p = c.args.problem.now in
    let answer = c.args.answer.now in
    let parts = answer.certificate.parts in
    fault_told g.F.Field.scalars p answer.set answer.certificate.kernel parts c.in-Some.fault c.requires.independent
    (subst (IsFaultIn p parts) c.in-Some.is c.in_ok-fault.ensures)

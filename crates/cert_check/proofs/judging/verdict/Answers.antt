use Rattle.std.proofs.lemmas.Result.{IfOk-weaker}
use Rattle.cert_check.proofs.Judged.{told_yes, told_largest}
use Rattle.cert_check.proofs.judging.verdict.Goals as goal
use Rattle.cert_check.specs.Verdicts.{IsVerdictOn}

pub returns-clause-yes : goal.returns-clause-yes
returns-clause-yes g c =
    let S = g.F.Field.scalars in
    let p = c.args.problem.now in
    let answer = c.args.answer.now in
    let kernel = answer.certificate.kernel in
    let parts = answer.certificate.parts in
    IfOk-weaker c.verdict_by_certificate.result (IsVerdictOn S p answer.set kernel parts) _
    (told_yes S p answer.set kernel parts) c.verdict_by_certificate.ensures

pub returns-clause-largest : goal.returns-clause-largest
returns-clause-largest g c =
    let S = g.F.Field.scalars in
    let p = c.args.problem.now in
    let answer = c.args.answer.now in
    let kernel = answer.certificate.kernel in
    let parts = answer.certificate.parts in
    IfOk-weaker c.verdict_by_certificate.result (IsVerdictOn S p answer.set kernel parts) _
    (told_largest S g.met.F.Field.lawful p c.len-lines.ensures.problem answer.set kernel parts) c.verdict_by_certificate.ensures

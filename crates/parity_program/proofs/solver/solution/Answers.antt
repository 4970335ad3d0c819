use Rattle.std.proofs.lemmas.Result.{IfOk-weaker}
use Rattle.parity_lines.proofs.EasyHalf.{good_answer_largest}
use Rattle.parity_program.proofs.solver.solution.Goals as goal

pub returns-clause-largest : goal.returns-clause-largest
returns-clause-largest g c =
    IfOk-weaker c.largest.result _ _ (λ answer good. good_answer_largest g.F.Field.scalars g.met.F.Field.lawful c.args.problem.now
    c.len-lines.ensures.problem answer.set answer.certificate.kernel answer.certificate.parts good) c.largest.ensures.good

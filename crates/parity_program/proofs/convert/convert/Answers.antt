use Rattle.std.proofs.lemmas.Result.{IfOk-weaker}
use Rattle.parity_program.proofs.convert.convert.Goals as goal

pub returns-in_ok-paths-in-PathFamily : goal.returns-in_ok-paths-in-PathFamily
returns-in_ok-paths-in-PathFamily c =
    let found = c.in_ok-paths-in-PathFamily in
    rw c.in-PathFamily.is (IfOk-weaker c.converted-in-PathFamily.result _ _ (λ reply is. (
      found.paths.problem,
      found.paths.offset,
      found.ensures.problem,
      found.ensures.offset,
      is,
    )) c.converted-in-PathFamily.ensures)

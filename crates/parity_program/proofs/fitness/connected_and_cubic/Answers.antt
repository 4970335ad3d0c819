use Rattle.std.proofs.lemmas.Result.{err_from_is_err_and}
use Rattle.parity_program.proofs.Checks.{first_refuses, second_decides}
use Rattle.parity_program.proofs.fitness.connected_and_cubic.Goals as goal

pub returns-in_err-connected-clause-admits : goal.returns-in_err-connected-clause-admits
returns-in_err-connected-clause-admits c =
    let p = err_from_is_err_and c.from_residual.result c.from_residual.ensures.1 in
    rw (p.1, p.2) (first_refuses _ _ c.in_err-connected.field-0.0 c.in_err-connected.ensures.admits)

pub returns-clause-admits : goal.returns-clause-admits
returns-clause-admits c = second_decides _ _ c.cubic.result c.in_ok-connected.ensures.admits c.cubic.ensures.admits

use Rattle.std.proofs.Common.{subst, refl}
use Rattle.parity_program.proofs.solve.solve.Goals as goal
use Rattle.parity_program.specs.Inputs.Input.{posed}
use Rattle.parity_program.specs.Replies.{IsSolvedReply}
use Rattle.parity_program.specs.Shown.{shown}

pub returns-clause-replies : goal.returns-clause-replies
returns-clause-replies g c =
    let p = c.args.problem.now in (
      posed g.F.Field.scalars.order p,
      rw c.in_ok-read_end.ensures.gives refl,
      subst (λ S. IsSolvedReply S p (shown c.in_ok-solved.field-0)) c.requires c.in_ok-solved.ensures,
    )

use Rattle.std.proofs.Common.{subst, refl}
use Rattle.parity_program.proofs.check.check.Goals as goal
use Rattle.parity_program.specs.Inputs.Input.{answered}
use Rattle.parity_program.specs.Replies.{IsVerdictReply}
use Rattle.parity_program.specs.Shown.{shown}
use Rattle.parity_text.proofs.Limits.{answer_within}
use Rattle.parity_text.specs.Shown.{answer_value}

pub checked-requires : goal.checked-requires
checked-requires g c = answer_within g.F.Field.scalars c.args.problem.now _ _ _ _ c.in_ok-answer.ensures.gives

pub returns-clause-replies : goal.returns-clause-replies
returns-clause-replies g c =
    let p = c.args.problem.now in
    let a = answer_value c.in_ok-answer.answer in
    let ended = rw c.in_ok-answer.ensures.bytes at c.in_ok-read_end.ensures.gives in (
      answered g.F.Field.scalars.order p a,
      rw (c.in_ok-answer.ensures.gives, ended) refl,
      subst (λ S. IsVerdictReply S p a (shown c.in_ok-checked.field-0)) c.requires c.in_ok-checked.ensures,
    )

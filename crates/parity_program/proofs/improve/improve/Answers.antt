use Rattle.std.proofs.Common.{subst, refl}
use Rattle.parity_program.proofs.improve.improve.Goals as goal
use Rattle.parity_program.specs.Inputs.Input.{chosen}
use Rattle.parity_program.specs.Replies.{IsImprovementReply}
use Rattle.parity_program.specs.Shown.{shown}
use Rattle.parity_text.proofs.Limits.{choice_within}

pub improved-requires : goal.improved-requires
improved-requires g c = (choice_within c.args.problem.now _ _ _ _ (rw c.len.ensures.value at c.in_ok-set.ensures.gives)).within

pub returns-clause-replies : goal.returns-clause-replies
returns-clause-replies g c =
    let p = c.args.problem.now in
    let set = c.in_ok-set.set in
    let gives = rw c.len.ensures.value at c.in_ok-set.ensures.gives in
    let ended = rw c.in_ok-set.ensures.bytes at c.in_ok-read_end.ensures.gives in (
      chosen g.F.Field.scalars.order p set,
      rw (gives, ended) refl,
      subst (λ S. IsImprovementReply S p set (shown c.in_ok-improved.field-0)) c.requires c.in_ok-improved.ensures,
    )

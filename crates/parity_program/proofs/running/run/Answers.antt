use Rattle.std.proofs.Common.{◌≡◌, ℕ, List, None, Some, refl, subst}
use Rattle.parity_program.proofs.Names.{named_once}
use Rattle.parity_program.proofs.Outcomes.{is_answered, keeps-same, same_end, same_outcome}
use Rattle.parity_program.proofs.running.run.Goals as goal
use Rattle.parity_program.specs.Commands.{Named}
use Rattle.parity_program.specs.Outcome.{Outcome}
use Rattle.parity_program.specs.declared.command.Command.{Command}

-- the command that was found is the only one
same : (words : List (List ℕ)) (found other : Command) → Named words (Some found) → Named words (Some other) → found ≡ other
same words found other h k = let once = named_once words (Some found) (Some other) h k in cc (once)

pub returns-in-Some-clause-outcome : goal.returns-in-Some-clause-outcome
returns-in-Some-clause-outcome g c found named =
    same_outcome (Some c.in-Some.command) found _ _ _ _
    (named_once _ (Some c.in-Some.command) found c.in-Some.ensures named) c.run_command.ensures.outcome

pub returns-in-Some-clause-usage : goal.returns-in-Some-clause-usage
returns-in-Some-clause-usage g c = (
  λ e. absurd (subst (Outcome (Some c.in-Some.command) _ _ _) e c.run_command.ensures.outcome),
  λ none. absurd (none c.in-Some.command c.in-Some.ensures.1 c.in-Some.ensures.0),
)

pub returns-in-Some-clause-untouched : goal.returns-in-Some-clause-untouched
returns-in-Some-clause-untouched g c e = absurd (subst (Outcome (Some c.in-Some.command) _ _ _) e c.run_command.ensures.outcome)

pub returns-in-Some-clause-unread : goal.returns-in-Some-clause-unread
returns-in-Some-clause-unread g c command named unread =
    c.run_command.ensures.unread (rw (same _ c.in-Some.command command c.in-Some.ensures named) unread)

pub returns-in-Some-clause-end : goal.returns-in-Some-clause-end
returns-in-Some-clause-end g c command named =
    same_end c.in-Some.command command _ _ (same _ c.in-Some.command command c.in-Some.ensures named) c.run_command.ensures.end

pub returns-in-Some-clause-complete : goal.returns-in-Some-clause-complete
returns-in-Some-clause-complete g c command bytes x named told ok no_read no_write =
    is_answered command _ _ _ bytes x told ok c.run_command.result _ _ _ _
    (same_outcome (Some c.in-Some.command) (Some command) _ _ _ _
    (named_once _ (Some c.in-Some.command) (Some command) c.in-Some.ensures named) c.run_command.ensures.outcome)
    c.run_command.ensures.read c.run_command.ensures.write no_read no_write

pub returns-in-None-clause-outcome : goal.returns-in-None-clause-outcome
returns-in-None-clause-outcome g c found named =
    same_outcome None found _ _ _ _ (named_once _ None found c.in-None.ensures named) (refl, keeps-same _)

pub returns-in-None-clause-usage : goal.returns-in-None-clause-usage
returns-in-None-clause-usage g c = (λ e. c.in-None.ensures, λ none. refl)

pub returns-in-None-clause-unread : goal.returns-in-None-clause-unread
returns-in-None-clause-unread g c command named unread = absurd (c.in-None.ensures command named.1 named.0)

pub returns-in-None-clause-complete : goal.returns-in-None-clause-complete
returns-in-None-clause-complete g c command bytes x named told ok no_read no_write = absurd (c.in-None.ensures command named.1 named.0)

use Rattle.parity_text.proofs.Limits.{head_within, problem_within, answer_within, choice_within}
use Rattle.parity_text.proofs.laws.values_are_within_limits.Goals as goal

pub returns-clause-head : goal.returns-clause-head
returns-clause-head c = head_within

pub returns-clause-problem : goal.returns-clause-problem
returns-clause-problem c = problem_within

pub returns-clause-answer : goal.returns-clause-answer
returns-clause-answer c = answer_within

pub returns-clause-choice : goal.returns-clause-choice
returns-clause-choice c = choice_within

use Rattle.parity_text.proofs.TextsMean.{Takes-head, Takes-problem, Takes-answer, Takes-choice}
use Rattle.parity_text.proofs.laws.texts_give_what_is_spelled.Goals as goal

pub returns-clause-head : goal.returns-clause-head
returns-clause-head c = Takes-head

pub returns-clause-problem : goal.returns-clause-problem
returns-clause-problem c = Takes-problem

pub returns-clause-answer : goal.returns-clause-answer
returns-clause-answer c = Takes-answer

pub returns-clause-choice : goal.returns-clause-choice
returns-clause-choice c = Takes-choice

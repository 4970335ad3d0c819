use Rattle.parity_text.proofs.RoundTrip.{problem_again, answer_again, choice_again}
use Rattle.parity_text.proofs.laws.written_texts_are_read.Goals as goal

pub returns-clause-problem : goal.returns-clause-problem
returns-clause-problem c = problem_again

pub returns-clause-answer : goal.returns-clause-answer
returns-clause-answer c S p a within belongs = answer_again S p within a belongs

pub returns-clause-choice : goal.returns-clause-choice
returns-clause-choice c S p set within h = choice_again S p within set h

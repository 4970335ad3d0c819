use Rattle.parity_text.proofs.FilesMean.{problem_file-means, answer_file-means, choice_file-means}
use Rattle.parity_text.proofs.laws.files_give_what_is_spelled.Goals as goal

pub returns-clause-problem : goal.returns-clause-problem
returns-clause-problem c = problem_file-means

pub returns-clause-answer : goal.returns-clause-answer
returns-clause-answer c = answer_file-means

pub returns-clause-choice : goal.returns-clause-choice
returns-clause-choice c = choice_file-means

use Rattle.parity_text.proofs.CausalForms.{IsCausal-head, IsCausal-problem, IsCausal-answer, IsCausal-choice}
use Rattle.parity_text.proofs.CausalForms.{RefusesCausally-problem_file, RefusesCausally-answer_file, RefusesCausally-choice_file}
use Rattle.parity_text.proofs.laws.texts_are_causal.Goals as goal

pub returns-clause-head : goal.returns-clause-head
returns-clause-head c = IsCausal-head

pub returns-clause-problem : goal.returns-clause-problem
returns-clause-problem c = IsCausal-problem

pub returns-clause-answer : goal.returns-clause-answer
returns-clause-answer c = IsCausal-answer

pub returns-clause-choice : goal.returns-clause-choice
returns-clause-choice c = IsCausal-choice

pub returns-clause-problem_file : goal.returns-clause-problem_file
returns-clause-problem_file c = RefusesCausally-problem_file

pub returns-clause-answer_file : goal.returns-clause-answer_file
returns-clause-answer_file c = RefusesCausally-answer_file

pub returns-clause-choice_file : goal.returns-clause-choice_file
returns-clause-choice_file c = RefusesCausally-choice_file

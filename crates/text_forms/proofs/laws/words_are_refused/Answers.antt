use Rattle.text_forms.proofs.Refusals.{fixed-count, ended-count, fixed-word, number-fault, version-fault, entry-range, position-range}
use Rattle.text_forms.proofs.Refusals.{position-order}
use Rattle.text_forms.proofs.laws.words_are_refused.Goals as goal

pub returns-clause-none : goal.returns-clause-none
returns-clause-none c = fixed-count

pub returns-clause-over : goal.returns-clause-over
returns-clause-over c = ended-count

pub returns-clause-word : goal.returns-clause-word
returns-clause-word c = fixed-word

pub returns-clause-number : goal.returns-clause-number
returns-clause-number c = number-fault

pub returns-clause-version : goal.returns-clause-version
returns-clause-version c = version-fault

pub returns-clause-entry : goal.returns-clause-entry
returns-clause-entry c = entry-range

pub returns-clause-range : goal.returns-clause-range
returns-clause-range c = position-range

pub returns-clause-order : goal.returns-clause-order
returns-clause-order c = position-order

use Rattle.text_forms.proofs.Refusals.{limited-limit, line-within-limit}
use Rattle.text_forms.proofs.laws.limits_are_refused.Goals as goal

pub returns-clause-word : goal.returns-clause-word
returns-clause-word c = limited-limit

pub returns-clause-line : goal.returns-clause-line
returns-clause-line c = line-within-limit

use Rattle.text_forms.proofs.LinesTake.{Takes-version_line, Takes-counted, Takes-counted_within, Takes-alone, finished-ok}
use Rattle.text_forms.proofs.laws.lines_give_what_is_spelled.Goals as goal

pub returns-clause-version : goal.returns-clause-version
returns-clause-version c = Takes-version_line

pub returns-clause-counted : goal.returns-clause-counted
returns-clause-counted c = Takes-counted

pub returns-clause-limited : goal.returns-clause-limited
returns-clause-limited c = Takes-counted_within

pub returns-clause-alone : goal.returns-clause-alone
returns-clause-alone c = Takes-alone

pub returns-clause-end : goal.returns-clause-end
returns-clause-end c last text rest = finished-ok last text rest tt

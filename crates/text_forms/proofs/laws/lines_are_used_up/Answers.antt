use Rattle.text_forms.proofs.LinesTake.{line-ok, whole_text-ok}
use Rattle.text_forms.proofs.laws.lines_are_used_up.Goals as goal

pub returns-clause-line : goal.returns-clause-line
returns-clause-line g c = line-ok

pub returns-clause-text : goal.returns-clause-text
returns-clause-text g c = whole_text-ok

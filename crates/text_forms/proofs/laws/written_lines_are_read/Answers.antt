use Rattle.text_forms.proofs.Written.{written-version, written-counted, written-limited, written-alone}
use Rattle.text_forms.proofs.laws.written_lines_are_read.Goals as goal

pub returns-clause-version : goal.returns-clause-version
returns-clause-version c = written-version

pub returns-clause-counted : goal.returns-clause-counted
returns-clause-counted c = written-counted

pub returns-clause-limited : goal.returns-clause-limited
returns-clause-limited c = written-limited

pub returns-clause-alone : goal.returns-clause-alone
returns-clause-alone c = written-alone

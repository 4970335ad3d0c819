use Rattle.text_forms.proofs.Due.{due-missing, due-byte, finished-extra, finished-byte}
use Rattle.text_forms.proofs.laws.lines_are_due.Goals as goal

pub returns-clause-missing : goal.returns-clause-missing
returns-clause-missing c = due-missing

pub returns-clause-byte : goal.returns-clause-byte
returns-clause-byte c = due-byte

pub returns-clause-extra : goal.returns-clause-extra
returns-clause-extra c = finished-extra

pub returns-clause-bad_extra : goal.returns-clause-bad_extra
returns-clause-bad_extra c = finished-byte

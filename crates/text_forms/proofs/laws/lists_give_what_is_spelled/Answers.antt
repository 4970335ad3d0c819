use Rattle.text_forms.proofs.ListsTake.{Takes-positions, Fills-some_positions, Takes-entries}
use Rattle.text_forms.proofs.laws.lists_give_what_is_spelled.Goals as goal

pub returns-clause-positions : goal.returns-clause-positions
returns-clause-positions c = Takes-positions

pub returns-clause-some : goal.returns-clause-some
returns-clause-some c = Fills-some_positions

pub returns-clause-entries : goal.returns-clause-entries
returns-clause-entries c = Takes-entries

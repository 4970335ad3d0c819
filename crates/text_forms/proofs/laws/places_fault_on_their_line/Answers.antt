use Rattle.text_forms.proofs.Faults.{FaultsOnLine-word, FaultsOnLine-fixed, FaultsOnLine-number, FaultsOnLine-version}
use Rattle.text_forms.proofs.Faults.{FaultsOnLine-counted, FaultsOnLine-counted_within, FaultsOnLine-times, FaultsOnLine-entry, FaultsOnLine-positions_above, FaultsOnLine-some_positions}
use Rattle.text_forms.specs.Places.{entry}
use Rattle.text_forms.proofs.laws.places_fault_on_their_line.Goals as goal

pub returns-clause-word : goal.returns-clause-word
returns-clause-word c = FaultsOnLine-word

pub returns-clause-fixed : goal.returns-clause-fixed
returns-clause-fixed c = FaultsOnLine-fixed

pub returns-clause-number : goal.returns-clause-number
returns-clause-number c = FaultsOnLine-number

pub returns-clause-version : goal.returns-clause-version
returns-clause-version c = FaultsOnLine-version

pub returns-clause-counted : goal.returns-clause-counted
returns-clause-counted c = FaultsOnLine-counted

pub returns-clause-limited : goal.returns-clause-limited
returns-clause-limited c = FaultsOnLine-counted_within

pub returns-clause-entries : goal.returns-clause-entries
returns-clause-entries c n order = FaultsOnLine-times n (entry order) (FaultsOnLine-entry order)

pub returns-clause-positions : goal.returns-clause-positions
returns-clause-positions c count lines = FaultsOnLine-positions_above count lines 0

pub returns-clause-some : goal.returns-clause-some
returns-clause-some c = FaultsOnLine-some_positions

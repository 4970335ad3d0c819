use Rattle.text_forms.proofs.PlacesTake.{Takes-word, Takes-fixed, Takes-number, Takes-version, Takes-limited, Takes-entry, Takes-position}
use Rattle.text_forms.proofs.laws.places_give_what_is_spelled.Goals as goal

pub returns-clause-word : goal.returns-clause-word
returns-clause-word c = Takes-word

pub returns-clause-fixed : goal.returns-clause-fixed
returns-clause-fixed c = Takes-fixed

pub returns-clause-number : goal.returns-clause-number
returns-clause-number c = Takes-number

pub returns-clause-version : goal.returns-clause-version
returns-clause-version c = Takes-version

pub returns-clause-limited : goal.returns-clause-limited
returns-clause-limited c = Takes-limited

pub returns-clause-entry : goal.returns-clause-entry
returns-clause-entry c = Takes-entry

pub returns-clause-position : goal.returns-clause-position
returns-clause-position c = Takes-position

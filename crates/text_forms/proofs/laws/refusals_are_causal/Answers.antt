use Rattle.text_forms.proofs.CausalTexts.{refused_fault, refused_any}
use Rattle.text_forms.proofs.laws.refusals_are_causal.Goals as goal

pub returns-clause-fault : goal.returns-clause-fault
returns-clause-fault g c form bytes line kind causal not_missing h = refused_fault form causal bytes line kind not_missing h

pub returns-clause-any : goal.returns-clause-any
returns-clause-any g c form bytes e causal h = refused_any form causal bytes e h

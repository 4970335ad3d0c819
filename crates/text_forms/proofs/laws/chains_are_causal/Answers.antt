use Rattle.text_forms.proofs.Causal.{GivesCausally-give, RefusesCausally-give, GivesCausally-bind, RefusesCausally-bind}
use Rattle.text_forms.proofs.laws.chains_are_causal.Goals as goal

pub returns-clause-gives : goal.returns-clause-gives
returns-clause-gives g c = GivesCausally-bind

pub returns-clause-refuses : goal.returns-clause-refuses
returns-clause-refuses g c = RefusesCausally-bind

pub returns-clause-value : goal.returns-clause-value
returns-clause-value g c x = (GivesCausally-give x, RefusesCausally-give x)

use Rattle.text_forms.proofs.Taking.{chain-ok, chain-err}
use Rattle.text_forms.proofs.laws.chains_read_in_order.Goals as goal

pub returns-clause-gives : goal.returns-clause-gives
returns-clause-gives g c = chain-ok

pub returns-clause-refuses : goal.returns-clause-refuses
returns-clause-refuses g c = chain-err

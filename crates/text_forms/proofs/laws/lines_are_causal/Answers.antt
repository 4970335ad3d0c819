use Rattle.text_forms.proofs.Causal.{GivesCausally-line, RefusesCausally-line, RefusesCausally-finished}
use Rattle.text_forms.proofs.laws.lines_are_causal.Goals as goal

pub returns-clause-gives : goal.returns-clause-gives
returns-clause-gives g c = GivesCausally-line

pub returns-clause-refuses : goal.returns-clause-refuses
returns-clause-refuses g c = RefusesCausally-line

pub returns-clause-end : goal.returns-clause-end
returns-clause-end g c = RefusesCausally-finished

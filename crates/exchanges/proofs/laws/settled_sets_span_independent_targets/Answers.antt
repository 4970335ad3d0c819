use Rattle.exchanges.proofs.SettledSets.{target_spanned}
use Rattle.exchanges.proofs.laws.settled_sets_span_independent_targets.Goals as goal

pub returns : goal.returns
returns c = λ S p keep T M F P i t k m s. target_spanned S F p P M i keep k m T t.line_set.within s t

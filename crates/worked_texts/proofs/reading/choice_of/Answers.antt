use Rattle.parity_text.proofs.Limits.{choice_within}
use Rattle.worked_texts.proofs.reading.choice_of.Goals as goal

pub returns-in-Ok : goal.returns-in-Ok
returns-in-Ok g c = (choice_within c.args.problem.now _ _ _ _ (rw c.len.ensures.value at c.in-Ok.ensures.gives)).within

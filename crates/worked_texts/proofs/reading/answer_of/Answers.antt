use Rattle.parity_text.proofs.Limits.{answer_within}
use Rattle.worked_texts.proofs.reading.answer_of.Goals as goal

pub returns-in-Ok : goal.returns-in-Ok
returns-in-Ok g c = answer_within g.F.Field.scalars c.args.problem.now _ _ _ _ c.in-Ok.ensures.gives

use Rattle.matching_state.proofs.Tips.{overlap_tells, overlap_told}
use Rattle.matching_state.proofs.laws.overlaps_are_told_by_any_tips.Goals as goal

pub returns : goal.returns
returns c = λ S p M e h tip cs outer tip' cs' outer' F P i in_e in_h t o t' o'. (
  overlap_tells S F p P M i e h in_e in_h tip cs outer tip' cs' outer' t o t' o',
  overlap_told S F p P M i e h in_e in_h tip cs outer tip' cs' outer' t o t' o',
)

use Rattle.matching_state.proofs.Tips.{exposed_by, tips_are_multiples, same_components}
use Rattle.matching_state.proofs.laws.tips_are_unique.Goals as goal

pub returns-clause-exposed : goal.returns-clause-exposed
returns-clause-exposed c = λ S p M e tip cs outer F P i h t o. exposed_by S F p P M i e h tip cs outer t o

pub returns-clause-multiples : goal.returns-clause-multiples
returns-clause-multiples c = λ S p M e tip cs tip' cs' F P i h x t t'. tips_are_multiples S F p P M i e h x tip cs tip' cs' t t'

pub returns-clause-components : goal.returns-clause-components
returns-clause-components c = λ S p M e m tip cs tip' cs' F P i h x t t' k. same_components S F p P M i e h x tip cs tip' cs' t t' m k

use Rattle.optimal_answers.proofs.GoodAnswers.{min_max_theorem}
use Rattle.optimal_answers.proofs.laws.lovasz_min_max_theorem.Goals as goal

pub returns : goal.returns
returns c = λ S p F P. min_max_theorem S F p P

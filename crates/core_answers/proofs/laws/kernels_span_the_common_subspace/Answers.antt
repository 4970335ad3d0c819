use Rattle.core_answers.proofs.CommonBases.{common_basis}
use Rattle.core_answers.proofs.CommonOfAnswers.{common_of_answer}
use Rattle.core_answers.proofs.laws.kernels_span_the_common_subspace.Goals as goal

pub returns : goal.returns
returns c = record {
  kernel = λ S p set kernel parts F P g v h. common_of_answer S F p P set kernel parts g v h;
  basis = λ S p F P. common_basis S F p P;
}

use Rattle.parity_lines.proofs.EasyHalf.{bound_limits, good_answer_largest}
use Rattle.parity_lines.proofs.laws.good_answer_is_largest.Goals as goal

pub returns : goal.returns
returns c = record {
  limits = λ S p kernel parts set F P. bound_limits S F p P kernel parts set;
  largest = λ S p set kernel parts F P. good_answer_largest S F p P set kernel parts;
}

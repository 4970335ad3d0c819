use Rattle.graph_problems.proofs.MatchingSets.{matching_of_set, set_of_matching, largest_matching, largest_set}
use Rattle.graph_problems.proofs.laws.matchings_are_independent_sets.Goals as goal

pub returns : goal.returns
returns c = record {
  sets = λ S n E L F r. (matching_of_set S F n E L, set_of_matching S F n E r L);
  largest = λ S n E L F r. (largest_matching S F n E r L, largest_set S F n E r L);
}

use Rattle.std.proofs.Common.{refl}
use Rattle.forest_pairs_front.specs.PairLines.{forest_problem}
use Rattle.forest_pairs_front.proofs.ForestSets.{forest_sets, largest_forests}
use Rattle.forest_pairs_front.proofs.laws.forests_are_independent_sets.Goals as goal

pub returns : goal.returns
returns c = record {
  sets = λ S n E M F cancel below. forest_sets S F cancel n E below (forest_problem S n E) refl M;
  largest = λ S n E M F cancel below. largest_forests S F cancel n E below (forest_problem S n E) refl M;
}

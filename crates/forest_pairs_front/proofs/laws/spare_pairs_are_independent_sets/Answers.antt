use Rattle.forest_pairs_front.proofs.SpareSets.{largest_spares, spare_sets}
use Rattle.forest_pairs_front.proofs.laws.spare_pairs_are_independent_sets.Goals as goal

pub returns : goal.returns
returns c = record {
  sets = λ S n E p M F two below connected G. spare_sets S F two n E below connected p G M;
  largest = λ S n E p M F two below connected G. largest_spares S F two n E below connected p G M;
}

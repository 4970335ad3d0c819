use Rattle.rotation_theory.proofs.Genus.{genus_at_most}
use Rattle.rotation_theory.proofs.MaximumGenus.{GenusAtLeast}
use Rattle.graph_theory.specs.Walks.{edge_at}
use Rattle.edge_lists.specs.EdgeNumbers.{edge_numbers}
use Rattle.genus_front.proofs.IndependentSets.{sets_are_spare}
use Rattle.genus_front.proofs.LargestSets.{LinesOf, largest_is_maximum, largest_of_maximum, lines_of_rotation, rotation_of_lines}
use Rattle.genus_front.proofs.laws.largest_sets_have_the_size_of_the_maximum_genus.Goals as goal

pub returns-clause-sets : goal.returns-clause-sets
returns-clause-sets c = λ S E n p P M F two B C G A L. sets_are_spare S F two E n B C p P M G A L

pub returns-clause-lower : goal.returns-clause-lower
returns-clause-lower c = λ S E n p M F two B C G h.
    let r : GenusAtLeast (edge_at E) n (edge_numbers E) _ = rotation_of_lines S F two E n B C p G M h in
    (r.L, r.g', r.rotation, r.has, r.least)

pub returns-clause-pairs : goal.returns-clause-pairs
returns-clause-pairs c = λ E n L g C R h. genus_at_most (edge_at E) n (edge_numbers E) L g R C h

pub returns-clause-upper : goal.returns-clause-upper
returns-clause-upper c = λ S E n p L g F two B C G R h.
    let r : LinesOf S F two E n B C p G g = lines_of_rotation S F two E n B C p G L g R h in (r.M, r.independent, r.size)

pub returns-clause-largest : goal.returns-clause-largest
returns-clause-largest c = λ S E n p M F two B C G L. largest_is_maximum S F two E n B C p G M L

pub returns-clause-maximum : goal.returns-clause-maximum
returns-clause-maximum c = λ S E n p g F two B C G I. largest_of_maximum S F two E n B C p G g I

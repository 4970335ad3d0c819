use Rattle.graph_problems.proofs.OneProblem.{one_cactus_problem}
use Rattle.graph_problems.proofs.TriangleSets.{cactus_of_set, set_of_cactus, largest_cactus, cactus_sizes}
use Rattle.graph_problems.proofs.laws.cacti_are_independent_sets.Goals as goal

pub returns : goal.returns
returns c = record {
  sets = λ S n E Ts L F two r all h. (cactus_of_set S F two n Ts E all L, set_of_cactus S F two n Ts E all r L h);
  largest = λ S n E Ts L F two r all. largest_cactus S F two n Ts E all r L;
  sizes = λ S n E Ts Us L F two r all. cactus_sizes S F two n Ts E all r L Us;
  one_problem = one_cactus_problem;
}

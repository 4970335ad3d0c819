use Rattle.std.proofs.Common.{length, refl}
use Rattle.std.proofs.lemmas.Result.{IfOk-weaker}
use Rattle.small_fields.specs.Laws.ModularField.{modular_field}
use Rattle.small_fields.specs.Laws.Primes.{prime_2}
use Rattle.small_fields.specs.ScalarsOf.{scalars_of}
use Rattle.forest_pairs_front.proofs.ForestSets.{forest_sets, largest_forests}
use Rattle.forest_pairs_front.proofs.forests.forest_problem.Goals as goal

pub returns-clause-independent : goal.returns-clause-independent
returns-clause-independent c = IfOk-weaker c.problem_over.result _ _
    (forest_sets (scalars_of 2) (modular_field 2 prime_2) refl (length c.args.graph.now.names) c.args.graph.now.ends
    c.edges-edges.ensures.graph.within)
    c.problem_over.ensures

pub returns-clause-largest : goal.returns-clause-largest
returns-clause-largest c = IfOk-weaker c.problem_over.result _ _
    (largest_forests (scalars_of 2) (modular_field 2 prime_2) refl (length c.args.graph.now.names) c.args.graph.now.ends
    c.edges-edges.ensures.graph.within)
    c.problem_over.ensures

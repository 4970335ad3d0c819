use Rattle.std.proofs.Common.{length, refl}
use Rattle.std.proofs.lemmas.Result.{IfOk-weaker}
use Rattle.vector_spaces.proofs.Members.{In-all}
use Rattle.graph_theory.proofs.Shuffles.{in_range}
use Rattle.small_fields.specs.Laws.ModularField.{modular_field}
use Rattle.small_fields.specs.Laws.Primes.{prime_2}
use Rattle.small_fields.specs.ScalarsOf.{scalars_of}
use Rattle.cactus_front.proofs.ChosenCactus.{positions_within, chosen_cactus, chosen_largest}
use Rattle.cactus_front.proofs.cactus.from_set.Goals as goal

pub chosen-requires : goal.chosen-requires
chosen-requires c = positions_within (scalars_of 2) (modular_field 2 prime_2) refl (length c.args.graph.now.names) c.args.graph.now.ends
    c.in_ok-triangles.triangles c.in_ok-triangles.ensures c.args.set.now c.requires

pub returns-clause-cactus : goal.returns-clause-cactus
returns-clause-cactus c = IfOk-weaker c.chosen.result _ _ (chosen_cactus (scalars_of 2) (modular_field 2 prime_2) refl
    (length c.args.graph.now.names) c.args.graph.now.ends c.in_ok-triangles.triangles c.in_ok-triangles.ensures c.args.set.now c.requires) c.chosen.ensures

pub returns-clause-largest : goal.returns-clause-largest
returns-clause-largest c = λ h. IfOk-weaker c.chosen.result _ _ (chosen_largest (scalars_of 2) (modular_field 2 prime_2) refl
    (length c.args.graph.now.names) c.args.graph.now.ends c.in_ok-triangles.triangles c.in_ok-triangles.ensures c.args.set.now c.requires
    (in_range (length c.args.graph.now.names) c.args.graph.now.ends (In-all _ c.args.graph.now.ends c.edges-edges.ensures.graph.within)) h) c.chosen.ensures

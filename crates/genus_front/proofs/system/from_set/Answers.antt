use Rattle.std.proofs.Common.{length, refl, ap₂, ◌∙◌}
use Rattle.small_fields.specs.Laws.ModularField.{modular_field}
use Rattle.small_fields.specs.Laws.Primes.{prime_2}
use Rattle.small_fields.specs.ScalarsOf.{scalars_of}
use Rattle.edge_lists.specs.Occurrences.{without}
use Rattle.genus_front.specs.GenusProblems.{edges_of}
use Rattle.genus_front.proofs.EdgeParts.{others_below, parts_of, set_within}
use Rattle.genus_front.proofs.LargestSets.{maximum_of_largest}
use Rattle.genus_front.proofs.system.from_set.Goals as goal

pub edges_of-requires : goal.edges_of-requires
edges_of-requires c = set_within (scalars_of 2) c.args.graph.now.ends c.args.set.now c.requires.set
    c.in_ok-pairs.pairs c.in_ok-pairs.ensures

pub spanning_forest-requires : goal.spanning_forest-requires
spanning_forest-requires c = others_below c.args.graph.now.ends (edges_of c.in_ok-pairs.pairs c.args.set.now) c.in_ok-others.others
    (c.in_ok-others.ensures ∙ ap₂ without c.in_ok-taken.ensures c.in_ok-all_edges.ensures)

pub grown-requires-clause-within : goal.grown-requires-clause-within
grown-requires-clause-within c = set_within (scalars_of 2) c.args.graph.now.ends c.args.set.now c.requires.set
    c.in_ok-pairs.pairs c.in_ok-pairs.ensures

pub grown-requires-clause-parts : goal.grown-requires-clause-parts
grown-requires-clause-parts c = parts_of (scalars_of 2) c.args.graph.now.ends c.args.set.now c.requires.set
    c.in_ok-pairs.pairs c.in_ok-pairs.ensures
    (modular_field 2 prime_2) refl (length c.args.graph.now.names) c.edges-edges.ensures.graph.within c.requires.connected
    c.in_ok-others.others c.in_ok-tree.tree c.in_ok-rest.rest
    (c.in_ok-others.ensures ∙ ap₂ without c.in_ok-taken.ensures c.in_ok-all_edges.ensures) c.in_ok-tree.ensures c.in_ok-rest.ensures

pub returns-clause-largest : goal.returns-clause-largest
returns-clause-largest c = λ O g h. maximum_of_largest (scalars_of 2) (modular_field 2 prime_2) refl c.args.graph.now.ends
    (length c.args.graph.now.names) c.edges-edges.ensures.graph.within c.requires.connected O.problem O.is_problem c.args.set.now O.so
    c.in_ok-rotation.rotation.lists g c.in_ok-rotation.ensures.rotation h (c.in_ok-rotation.ensures.genus g h)

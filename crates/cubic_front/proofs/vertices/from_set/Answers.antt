use Rattle.std.proofs.Common.{length, refl, ap₂, ◌∙◌}
use Rattle.std.proofs.lemmas.Result.{IfOk-weaker}
use Rattle.small_fields.specs.Laws.ModularField.{modular_field}
use Rattle.small_fields.specs.Laws.Primes.{prime_2}
use Rattle.small_fields.specs.ScalarsOf.{scalars_of}
use Rattle.edge_lists.specs.Occurrences.{without}
use Rattle.genus_front.specs.EdgeParts.{AreParts}
use Rattle.genus_front.specs.GenusProblems.{edges_of}
use Rattle.genus_front.proofs.EdgeParts.{others_below, parts_of, rest_below, set_within}
use Rattle.cubic_front.proofs.SetOfParts.{made_feedback, made_small}
use Rattle.cubic_front.proofs.SetsAndVertices.{least_of_largest}
use Rattle.cubic_front.proofs.vertices.from_set.Goals as goal

pub edges_of-requires : goal.edges_of-requires
edges_of-requires c = set_within (scalars_of 2) c.args.graph.now.ends c.args.set.now c.requires.set
    c.in_ok-pairs.pairs c.in_ok-pairs.ensures

pub spanning_forest-requires : goal.spanning_forest-requires
spanning_forest-requires c = others_below c.args.graph.now.ends (edges_of c.in_ok-pairs.pairs c.args.set.now) c.in_ok-others.others
    (c.in_ok-others.ensures ∙ ap₂ without c.in_ok-taken.ensures c.in_ok-all_edges.ensures)

pub common_ends-requires-clause-within : goal.common_ends-requires-clause-within
common_ends-requires-clause-within c = set_within (scalars_of 2) c.args.graph.now.ends c.args.set.now c.requires.set
    c.in_ok-pairs.pairs c.in_ok-pairs.ensures

pub push_first_ends-requires : goal.push_first_ends-requires
push_first_ends-requires c =
    let E = c.args.graph.now.ends in
    let n = length c.args.graph.now.names in
    let P = c.in_ok-pairs.pairs in
    let M = c.args.set.now in
    let A : AreParts E n (edges_of P M) c.in_ok-tree.tree c.in_ok-rest.rest =
    parts_of (scalars_of 2) E M c.requires.set P c.in_ok-pairs.ensures (modular_field 2 prime_2) refl n
    c.vertices-vertices.ensures.graph.within c.requires.connected c.in_ok-others.others c.in_ok-tree.tree c.in_ok-rest.rest
    (c.in_ok-others.ensures ∙ ap₂ without c.in_ok-taken.ensures c.in_ok-all_edges.ensures) c.in_ok-tree.ensures c.in_ok-rest.ensures in
    rest_below E n (edges_of P M) c.in_ok-tree.tree c.in_ok-rest.rest A

pub returns-clause-feedback : goal.returns-clause-feedback
returns-clause-feedback c =
    let E = c.args.graph.now.ends in
    let n = length c.args.graph.now.names in
    let P = c.in_ok-pairs.pairs in
    let M = c.args.set.now in
    let A : AreParts E n (edges_of P M) c.in_ok-tree.tree c.in_ok-rest.rest =
    parts_of (scalars_of 2) E M c.requires.set P c.in_ok-pairs.ensures (modular_field 2 prime_2) refl n
    c.vertices-vertices.ensures.graph.within c.requires.connected c.in_ok-others.others c.in_ok-tree.tree c.in_ok-rest.rest
    (c.in_ok-others.ensures ∙ ap₂ without c.in_ok-taken.ensures c.in_ok-all_edges.ensures) c.in_ok-tree.ensures c.in_ok-rest.ensures in
    IfOk-weaker c.in_order.result _ _ (made_feedback E n c.requires.vertices c.vertices-vertices.ensures.graph.within c.requires.connected c.requires.cubic P M
    c.in_ok-tree.tree c.in_ok-rest.rest A c.in_ok-marks.marks c.push_first_ends.new.marks c.in_ok-marks.ensures
    c.in_ok-push_first_ends.ensures c.vertices-vertices.result c.vertices-vertices.ensures.value) c.in_order.ensures

pub returns-clause-size : goal.returns-clause-size
returns-clause-size c =
    let E = c.args.graph.now.ends in
    let n = length c.args.graph.now.names in
    let P = c.in_ok-pairs.pairs in
    let M = c.args.set.now in
    let A : AreParts E n (edges_of P M) c.in_ok-tree.tree c.in_ok-rest.rest =
    parts_of (scalars_of 2) E M c.requires.set P c.in_ok-pairs.ensures (modular_field 2 prime_2) refl n
    c.vertices-vertices.ensures.graph.within c.requires.connected c.in_ok-others.others c.in_ok-tree.tree c.in_ok-rest.rest
    (c.in_ok-others.ensures ∙ ap₂ without c.in_ok-taken.ensures c.in_ok-all_edges.ensures) c.in_ok-tree.ensures c.in_ok-rest.ensures in
    IfOk-weaker c.in_order.result _ _ (made_small E n c.requires.vertices c.vertices-vertices.ensures.graph.within c.requires.connected c.requires.cubic P M
    c.in_ok-tree.tree c.in_ok-rest.rest A c.in_ok-marks.marks c.push_first_ends.new.marks c.in_ok-marks.ensures
    c.in_ok-push_first_ends.ensures c.vertices-vertices.result c.vertices-vertices.ensures.value) c.in_order.ensures

pub returns-clause-least : goal.returns-clause-least
returns-clause-least c = λ L.
    let E = c.args.graph.now.ends in
    let n = length c.args.graph.now.names in
    let P = c.in_ok-pairs.pairs in
    let M = c.args.set.now in
    let A : AreParts E n (edges_of P M) c.in_ok-tree.tree c.in_ok-rest.rest =
    parts_of (scalars_of 2) E M c.requires.set P c.in_ok-pairs.ensures (modular_field 2 prime_2) refl n
    c.vertices-vertices.ensures.graph.within c.requires.connected c.in_ok-others.others c.in_ok-tree.tree c.in_ok-rest.rest
    (c.in_ok-others.ensures ∙ ap₂ without c.in_ok-taken.ensures c.in_ok-all_edges.ensures) c.in_ok-tree.ensures c.in_ok-rest.ensures in
    IfOk-weaker c.in_order.result _ _ (λ X O. least_of_largest (scalars_of 2) (modular_field 2 prime_2) refl E n c.requires.vertices
    c.vertices-vertices.ensures.graph.within c.requires.connected c.requires.cubic L.problem L.is_problem M L.so X
    (made_feedback E n c.requires.vertices c.vertices-vertices.ensures.graph.within c.requires.connected c.requires.cubic P M
    c.in_ok-tree.tree c.in_ok-rest.rest A c.in_ok-marks.marks c.push_first_ends.new.marks c.in_ok-marks.ensures
    c.in_ok-push_first_ends.ensures c.vertices-vertices.result c.vertices-vertices.ensures.value X O)
    (made_small E n c.requires.vertices c.vertices-vertices.ensures.graph.within c.requires.connected c.requires.cubic P M
    c.in_ok-tree.tree c.in_ok-rest.rest A c.in_ok-marks.marks c.push_first_ends.new.marks c.in_ok-marks.ensures
    c.in_ok-push_first_ends.ensures c.vertices-vertices.result c.vertices-vertices.ensures.value X O)) c.in_order.ensures

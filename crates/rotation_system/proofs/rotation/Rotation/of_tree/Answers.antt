use Rattle.std.proofs.Common.{length, arith}
use Rattle.graph_theory.specs.Walks.{edge_at}
use Rattle.rotation_system.proofs.TreeGrowth.{grown_faces, made_held, made_system}
use Rattle.rotation_system.proofs.rotation.Rotation.of_tree.Goals as goal

pub invariant_of-result : goal.invariant_of-result
invariant_of-result c = made_system c.args.graph.now.ends (length c.args.graph.now.names) c.args.tree.now c.in_ok-lists.lists
    c.in_ok-ends.ends.items
    c.in_ok-ends.ensures c.requires.edges c.requires.few (omega (
      arith,
      c.vertices-vertices.ensures.small,
      c.vertices-vertices.ensures.value,
    ))
    c.vertices-vertices.ensures.graph.within c.requires.tree.connects c.in_ok-lists.ensures.least c.in_ok-lists.ensures.grown

pub returns-clause-held : goal.returns-clause-held
returns-clause-held c = made_held c.args.graph.now.ends (length c.args.graph.now.names) c.args.tree.now c.in_ok-lists.lists
    c.in_ok-ends.ends.items c.in_ok-ends.ensures c.requires.edges c.in_ok-lists.ensures.grown

pub returns-clause-vertices : goal.returns-clause-vertices
returns-clause-vertices c = c.in_ok-lists.ensures.grown.rotation.long

pub returns-clause-faces : goal.returns-clause-faces
returns-clause-faces c = grown_faces (edge_at c.args.graph.now.ends) (length c.args.graph.now.names) c.args.tree.now c.in_ok-lists.lists
    c.requires.tree.connects c.in_ok-lists.ensures.grown

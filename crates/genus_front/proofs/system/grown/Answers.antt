use Rattle.std.proofs.Common.{length}
use Rattle.genus_front.specs.GenusProblems.{edges_of}
use Rattle.genus_front.proofs.EdgeParts.{rest_below, rest_new, taken_new, tree, tree_below, tree_genus}
use Rattle.genus_front.proofs.SetRotations.{each_held, large_genus, whole_rotation}
use Rattle.genus_front.proofs.system.grown.Goals as goal

pub of_tree-requires-clause-edges : goal.of_tree-requires-clause-edges
of_tree-requires-clause-edges c = tree_below c.args.graph.now.ends (length c.args.graph.now.names)
    (edges_of c.args.pairs.now c.args.set.now) c.args.tree.now c.args.rest.now c.requires.parts

pub of_tree-requires-clause-tree : goal.of_tree-requires-clause-tree
of_tree-requires-clause-tree c = tree c.args.graph.now.ends (length c.args.graph.now.names)
    (edges_of c.args.pairs.now c.args.set.now) c.args.tree.now c.args.rest.now c.requires.parts

pub insert_pairs-requires-clause-new : goal.insert_pairs-requires-clause-new
insert_pairs-requires-clause-new c = taken_new c.args.graph.now.ends (length c.args.graph.now.names)
    (edges_of c.args.pairs.now c.args.set.now) c.args.tree.now c.args.rest.now c.requires.parts
    c.in_ok-rotation.rotation c.in_ok-rotation.ensures.held

pub insert_pairs-requires-clause-genus : goal.insert_pairs-requires-clause-genus
insert_pairs-requires-clause-genus c = tree_genus c.args.graph.now.ends (length c.args.graph.now.names)
    (edges_of c.args.pairs.now c.args.set.now) c.args.tree.now c.args.rest.now c.requires.parts
    c.in_ok-rotation.rotation c.in_ok-rotation.ensures.vertices c.in_ok-rotation.ensures.held c.in_ok-rotation.ensures.faces

pub insert_edges-requires-clause-edges : goal.insert_edges-requires-clause-edges
insert_edges-requires-clause-edges c = rest_below c.args.graph.now.ends (length c.args.graph.now.names)
    (edges_of c.args.pairs.now c.args.set.now) c.args.tree.now c.args.rest.now c.requires.parts

pub insert_edges-requires-clause-new : goal.insert_edges-requires-clause-new
insert_edges-requires-clause-new c = rest_new c.args.graph.now.ends (length c.args.graph.now.names)
    (edges_of c.args.pairs.now c.args.set.now) c.args.tree.now c.args.rest.now c.requires.parts
    c.in_ok-rotation.rotation c.insert_pairs.new.rotation c.in_ok-rotation.ensures.held c.in_ok-insert_pairs.ensures.more.more

pub returns-clause-held : goal.returns-clause-held
returns-clause-held c = each_held c.args.graph.now.ends (length c.args.graph.now.names) (length c.args.set.now)
    (edges_of c.args.pairs.now c.args.set.now) c.args.tree.now c.args.rest.now c.requires.parts c.in_ok-rotation.rotation
    c.insert_pairs.new.rotation c.insert_edges.new.rotation c.in_ok-rotation.ensures.ends c.in_ok-rotation.ensures.vertices
    c.in_ok-rotation.ensures.held c.in_ok-insert_pairs.ensures c.in_ok-insert_edges.ensures c.vertices-pairs_in.ensures.system c.vertices-all_in.ensures.system

pub returns-clause-rotation : goal.returns-clause-rotation
returns-clause-rotation c = whole_rotation c.args.graph.now.ends (length c.args.graph.now.names) (length c.args.set.now)
    (edges_of c.args.pairs.now c.args.set.now) c.args.tree.now c.args.rest.now c.requires.parts c.in_ok-rotation.rotation
    c.insert_pairs.new.rotation c.insert_edges.new.rotation c.in_ok-rotation.ensures.ends c.in_ok-rotation.ensures.vertices
    c.in_ok-rotation.ensures.held c.in_ok-insert_pairs.ensures c.in_ok-insert_edges.ensures c.vertices-pairs_in.ensures.system c.vertices-all_in.ensures.system

pub returns-clause-genus : goal.returns-clause-genus
returns-clause-genus c = large_genus c.args.graph.now.ends (length c.args.graph.now.names) (length c.args.set.now)
    (edges_of c.args.pairs.now c.args.set.now) c.args.tree.now c.args.rest.now c.requires.parts c.in_ok-rotation.rotation
    c.insert_pairs.new.rotation c.insert_edges.new.rotation c.in_ok-rotation.ensures.ends c.in_ok-rotation.ensures.vertices
    c.in_ok-rotation.ensures.held c.in_ok-insert_pairs.ensures c.in_ok-insert_edges.ensures c.vertices-pairs_in.ensures.system c.vertices-all_in.ensures.system

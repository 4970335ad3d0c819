use Rattle.s_paths_front.proofs.PathsOfSet.{forest_in_graph, answered_family, answered_enough, answered_largest}
use Rattle.s_paths_front.proofs.paths.from_set.Goals as goal

pub paths_in-requires-clause-forest : goal.paths_in-requires-clause-forest
paths_in-requires-clause-forest c = forest_in_graph c.args.graph.now c.edges-edges.ensures.graph c.requires.classes c.args.set.now
    c.in_ok-forest.forest c.in_ok-forest.ensures c.requires.set

pub returns-clause-family : goal.returns-clause-family
returns-clause-family c = answered_family c.args.graph.now c.edges-edges.ensures.graph c.requires.classes c.args.set.now
    c.in_ok-forest.forest c.in_ok-forest.ensures c.requires.set c.paths_in.result c.paths_in.ensures.family c.paths_in.ensures.each

pub returns-clause-enough : goal.returns-clause-enough
returns-clause-enough c offset total = answered_enough c.args.graph.now c.edges-edges.ensures.graph c.requires.classes
    c.args.set.now c.in_ok-forest.forest c.in_ok-forest.ensures c.requires.set c.paths_in.result c.paths_in.ensures.family
    c.paths_in.ensures.each offset total

pub returns-clause-largest : goal.returns-clause-largest
returns-clause-largest c h = answered_largest c.args.graph.now c.edges-edges.ensures.graph c.requires.classes c.args.set.now
    c.in_ok-forest.forest c.in_ok-forest.ensures c.requires.set c.paths_in.result c.paths_in.ensures.family c.paths_in.ensures.each h

use Rattle.std.proofs.Common.{arith}
use Rattle.worked_graphs.proofs.NoDarts.{no_darts_at_loop}
use Rattle.worked_graphs.proofs.rotations.one_loop.Goals as goal

pub insert_edge-requires-clause-first_place : goal.insert_edge-requires-clause-first_place
insert_edge-requires-clause-first_place g c = (no_darts_at_loop c.in_ok-rotation.rotation c.vertices-vertex.ensures.system
    c.in_ok-rotation.ensures.held c.in_ok-graph.graph.ends c.add_loop.new.graph.ends c.in_ok-graph.ensures.edges
    c.in_ok-add_loop.ensures.last c.in_ok-rotation.ensures.ends
    (omega (arith, c.in_ok-rotation.ensures.vertices, c.in_ok-add_loop.ensures.vertex))).0

pub insert_edge-requires-clause-second_place : goal.insert_edge-requires-clause-second_place
insert_edge-requires-clause-second_place g c = (no_darts_at_loop c.in_ok-rotation.rotation c.vertices-vertex.ensures.system
    c.in_ok-rotation.ensures.held c.in_ok-graph.graph.ends c.add_loop.new.graph.ends c.in_ok-graph.ensures.edges
    c.in_ok-add_loop.ensures.last c.in_ok-rotation.ensures.ends
    (omega (arith, c.in_ok-rotation.ensures.vertices, c.in_ok-add_loop.ensures.vertex))).1

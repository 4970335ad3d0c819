use Rattle.std.proofs.Common.{◌+◌, ◌*◌, length, arith}
use Rattle.edge_path_theory.specs.SecondGraph.{reverses}
use Rattle.edge_paths_front.proofs.EdgeSteps.{reverse_put}
use Rattle.edge_paths_front.proofs.second_graph.put_reverses.Goals as goal

pub loop-edge-preserved : goal.loop-edge-preserved
loop-edge-preserved c = let m = length c.args.graph.now.ends in reverse_put c.loop-edge.second c.args.second.now c.edge.new.self
    c.loop-edge.edge m (2 * c.loop-edge.edge) (2 * c.loop-edge.edge + 1) (reverses m) (omega arith) (omega arith) (omega arith)
    c.loop-edge.invariant c.in_ok-edge.ensures.ok

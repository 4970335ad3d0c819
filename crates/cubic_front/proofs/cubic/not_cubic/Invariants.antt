use Rattle.cubic_front.specs.CubicGraphs.{IsCubic}
use Rattle.cubic_front.proofs.cubic.not_cubic.Given as goal

abbrev pub invariant-loop-vertex : goal.invariant-loop-vertex
invariant-loop-vertex l = IsCubic l.vertex l.graph.ends

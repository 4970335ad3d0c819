use Rattle.std.proofs.Common.{◌≡◌, ◌≤◌, ◌∷◌, length, take}
use Rattle.vector_spaces.proofs.Distinct.{IsDistinct}
use Rattle.cubic_front.specs.CubicGraphs.{ways_from}
use Rattle.cubic_front.proofs.cubic.is_cubic.Given as goal

abbrev pub invariant-loop-edge : goal.invariant-loop-edge
invariant-loop-edge l = record {
  many : l.found ≡ length (ways_from l.vertex (take l.edge l.graph.ends));
  few : l.found ≤ l.edge;
  different : IsDistinct (l.vertex ∷ ways_from l.vertex (take l.edge l.graph.ends));
}

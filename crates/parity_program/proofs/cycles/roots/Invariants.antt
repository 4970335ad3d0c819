use Rattle.std.proofs.Common.{◌≡◌, ◌≤◌}
use Rattle.graph_theory.specs.Counts.{count, is_root}
use Rattle.parity_program.proofs.cycles.roots.Given as goal

abbrev pub invariant-loop-vertex : goal.invariant-loop-vertex
invariant-loop-vertex l = record {
  value : l.found ≡ count l.vertex (is_root l.graph.ends);
  most : l.found ≤ l.vertex;
}

use Rattle.std.proofs.Common.{◌≡◌, ◌≤◌}
use Rattle.graph_theory.specs.Counts.{count}
use Rattle.path_theory.specs.Classes.{is_terminal}
use Rattle.s_paths_front.proofs.counts.terminals.Given as goal

abbrev pub invariant-loop-vertex : goal.invariant-loop-vertex
invariant-loop-vertex l = record {
  value : l.found ≡ count l.vertex (is_terminal l.graph.classes);
  most : l.found ≤ l.vertex;
}

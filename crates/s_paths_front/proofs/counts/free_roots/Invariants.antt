use Rattle.std.proofs.Common.{◌≡◌, ◌≤◌, length}
use Rattle.std.specs.Prelude.{◌&&◌, not}
use Rattle.graph_theory.specs.Counts.{count, is_root}
use Rattle.path_theory.specs.Classes.{is_terminal}
use Rattle.path_theory.specs.Terminals.{is_terminal_with, some_below}
use Rattle.s_paths_front.proofs.counts.free_roots.Given as goal

abbrev pub invariant-loop-vertex : goal.invariant-loop-vertex
invariant-loop-vertex l = record {
  value : l.free ≡ count l.vertex (λ w. is_root l.graph.ends w
      && not (some_below (length l.graph.names) (is_terminal_with (is_terminal l.graph.classes) l.graph.ends w)));
  most : l.free ≤ l.vertex;
}

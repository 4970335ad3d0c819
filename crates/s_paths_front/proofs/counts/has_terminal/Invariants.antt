use Rattle.std.proofs.Common.{◌≡◌, false}
use Rattle.path_theory.specs.Classes.{is_terminal}
use Rattle.path_theory.specs.Terminals.{is_terminal_with, some_below}
use Rattle.s_paths_front.proofs.counts.has_terminal.Given as goal

abbrev pub invariant-loop-vertex : goal.invariant-loop-vertex
invariant-loop-vertex l = some_below l.vertex (is_terminal_with (is_terminal l.graph.classes) l.graph.ends l.root) ≡ false

use Rattle.std.proofs.Common.{◌≡◌, ◌++◌, map, take}
use Rattle.std.specs.List.{flat_map}
use Rattle.line_lexer.specs.Words.{line_text}
use Rattle.graph_text.specs.Spelled.{dart_path_words}
use Rattle.graph_text.proofs.writers.put_dart_paths.Given as goal

abbrev pub invariant-loop-i : goal.invariant-loop-i
invariant-loop-i l = l.out.items ≡ l.initial.out.items ++ flat_map line_text (take l.i (map dart_path_words l.paths))

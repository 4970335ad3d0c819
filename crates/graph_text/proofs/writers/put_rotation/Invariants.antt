use Rattle.std.proofs.Common.{◌≡◌, ◌++◌, map, take}
use Rattle.std.specs.List.{flat_map, zip}
use Rattle.line_lexer.specs.Words.{line_text}
use Rattle.graph_text.specs.Spelled.{at_words}
use Rattle.graph_text.proofs.writers.put_rotation.Given as goal

abbrev pub invariant-loop-vertex : goal.invariant-loop-vertex
invariant-loop-vertex l = l.out.items ≡ l.initial.out.items
    ++ flat_map line_text (take l.vertex (map at_words (zip l.graph.names l.rotation.lists)))

use Rattle.std.proofs.Common.{◌≡◌, ◌++◌, map, take}
use Rattle.std.specs.List.{flat_map}
use Rattle.line_lexer.specs.Words.{line_text}
use Rattle.forest_pairs_front.specs.Spelled.{pair_words}
use Rattle.forest_pairs_front.proofs.writing.put_pairs.Given as goal

abbrev pub invariant-loop-i : goal.invariant-loop-i
invariant-loop-i l = l.out.items ≡ l.initial.out.items ++ flat_map line_text (take l.i (map pair_words l.set))

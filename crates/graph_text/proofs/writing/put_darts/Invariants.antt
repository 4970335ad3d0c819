use Rattle.std.proofs.Common.{◌≡◌, ◌++◌, ◌∷◌, map, take}
use Rattle.std.specs.List.{flat_map}
use Rattle.graph_text.specs.Spelled.{dart_word}
use Rattle.graph_text.proofs.writing.put_darts.Given as goal

abbrev pub invariant-loop-i : goal.invariant-loop-i
invariant-loop-i l = l.out.items ≡ l.initial.out.items ++ flat_map (λ w. 32 ∷ w) (take l.i (map dart_word l.darts))

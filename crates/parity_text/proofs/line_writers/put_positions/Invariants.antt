use Rattle.std.proofs.Common.{◌≡◌, ◌++◌, ◌∷◌, take}
use Rattle.std.specs.List.{flat_map}
use Rattle.parity_text.specs.Spelled.{position_words}
use Rattle.parity_text.proofs.line_writers.put_positions.Given as goal

abbrev pub invariant-loop-i : goal.invariant-loop-i
invariant-loop-i l = l.out.items ≡ l.initial.out.items ++ flat_map (λ w. 32 ∷ w) (take l.i (position_words l.set))

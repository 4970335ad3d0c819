use Rattle.std.proofs.Common.{◌≡◌, ◌++◌, ◌∷◌, map, take}
use Rattle.std.specs.Fmt.{decimal}
use Rattle.std.specs.List.{flat_map}
use Rattle.parity_text.proofs.line_writers.put_elements.Given as goal

abbrev pub invariant-loop-x : goal.invariant-loop-x
invariant-loop-x g l = l.out.items ≡ l.initial.out.items ++ flat_map (λ w. 32 ∷ w) (take l.x-index (map decimal (map g.F.Field.number l.v)))

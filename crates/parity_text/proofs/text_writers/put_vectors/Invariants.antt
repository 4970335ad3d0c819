use Rattle.std.proofs.Common.{◌≡◌, ◌++◌, ◌∷◌, map, take}
use Rattle.std.specs.Prelude.{codes}
use Rattle.std.specs.Fmt.{decimal}
use Rattle.std.specs.List.{flat_map}
use Rattle.line_lexer.specs.Words.{line_text}
use Rattle.parity_text.proofs.text_writers.put_vectors.Given as goal

abbrev pub invariant-loop-i : goal.invariant-loop-i
invariant-loop-i g l = l.out.items ≡ l.initial.out.items
    ++ flat_map line_text (take l.i (map (λ v. codes "vector" ∷ map decimal v) l.kernel.rows))

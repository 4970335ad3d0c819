-- Reading all that is left, as a loop does.
use Rattle.std.proofs.Common.{◌≡◌, ℕ, List, [], ◌∷◌, Result, Ok, refl, sym, ap, ◌∙◌}
use Rattle.line_lexer.specs.declared.refusal.TextRefusal.{TextRefusal}
use Rattle.line_lexer.specs.declared.refusal.TextRefusal.TheVariants.{Bad, Limit, OutOfMemory}
use Rattle.text_forms.specs.Reading.{Reads}
use Rattle.text_forms.specs.Gives.{Fails}
use Rattle.graph_text.specs.Texts.{value_then, each}

-- one by itself, and then the others
pub each_goes_on : {T A : Type 0} (next : A → Reads T A) (x y : A) (at : ℕ) (t : T) (left more : List T) (total : Result (A × List T) TextRefusal)
    → left ≡ t ∷ more → next x at (t ∷ []) ≡ Ok (y, []) → each next x at left ≡ total → each next y at more ≡ total
unfolding each
each_goes_on next x y at t left more total split one so_far =
    let all : each next x at left ≡ each next y at more = rw (split, one) refl in
    sym all ∙ so_far

value_fails : {T A B : Type 0} (next : A → Result B TextRefusal) (e : TextRefusal) (read : Result (A × List T) TextRefusal) (total : Result B TextRefusal)
    → value_then next read ≡ total → Fails e read → Fails e total
value_fails next OutOfMemory read total so_far h = tt
value_fails next (Bad line kind) read total so_far h = sym so_far ∙ ap (value_then next) h
value_fails next (Limit what found) read total so_far h = sym so_far ∙ ap (value_then next) h

-- one by itself is refused
pub each_stops : {T A : Type 0} (next : A → Reads T A) (x : A) (e : TextRefusal) (at : ℕ) (t : T) (left more : List T) (total : Result (A × List T) TextRefusal)
    → left ≡ t ∷ more → Fails e (next x at (t ∷ [])) → each next x at left ≡ total → Fails e total
unfolding each
each_stops next x e at t left more total split one so_far =
    let all : value_then (λ y. each next y at more) (next x at (t ∷ [])) ≡ total = rw split at so_far in
    value_fails (λ y. each next y at more) e (next x at (t ∷ [])) total all one

-- none is left
pub each_is_done : {T A : Type 0} (next : A → Reads T A) (x : A) (at : ℕ) (left : List T) (total : Result (A × List T) TextRefusal) → left ≡ [] → each next x at left ≡ total → total ≡ Ok (x, left)
unfolding each
each_is_done next x at left total none so_far = let all : each next x at left ≡ Ok (x, left) = rw none refl in sym so_far ∙ all

-- The lines up to one depend on the text's lines up to it alone.
use Rattle.std.proofs.Common.{◌≡◌, ℕ, suc, ◌+◌, ◌-◌, ◌≤◌, List, [], ◌∷◌, ◌++◌, length, take, true, false, not, refl, sym, ap, ◌∙◌, arith, inl, inr}
use Rattle.std.specs.Prelude.{filter}
use Rattle.std.specs.List.{AllByRecursion}
use Rattle.std.proofs.lemmas.Bool.{cases_Bool}
use Rattle.line_lexer.specs.Lines.{Line, line_of, is_passed, numbered, lines, lines_from}
use Rattle.line_lexer.specs.Words.{IsNumberedWithin}
use Rattle.line_lexer.proofs.WordsOfLines.{numbered-range}

abbrev kept : ℕ → List (List ℕ) → List Line
kept n ls = filter (λ line. not (is_passed line)) (numbered n ls)

at_range : (n end : ℕ) (before : List Line) (at : Line) (rest : List Line) → AllByRecursion (IsNumberedWithin n end) (before ++ at ∷ rest) → n ≤ at.number
at_range n end [] at rest h = h.0.0
at_range n end (b ∷ before) at rest h = at_range n end before at rest h.1

abbrev Continues : ℕ → List (List ℕ) → List Line → Line → Type 0
Continues n ls before at = (more : List Line) × (kept n ls ≡ before ++ at ∷ more)

kept-passed : (n : ℕ) (l : List ℕ) (ls : List (List ℕ)) → is_passed (line_of n l) ≡ true → kept n (l ∷ ls) ≡ kept (n + 1) ls
kept-passed n l ls h = rw h refl

kept-stays : (n : ℕ) (l : List ℕ) (ls : List (List ℕ)) → is_passed (line_of n l) ≡ false → kept n (l ∷ ls) ≡ line_of n l ∷ kept (n + 1) ls
kept-stays n l ls h = rw h refl

-- where the first line is one of those up to the number, the others begin with the same line
same_first : (n : ℕ) (l : List ℕ) (ls ms : List (List ℕ)) (before : List Line) (at : Line) (rest : List Line) → kept n (l ∷ ls) ≡ before ++ at ∷ rest
    → take ((at.number + 1) - n) ms ≡ take ((at.number + 1) - n) (l ∷ ls)
    → (others : List (List ℕ)) × (ms ≡ l ∷ others) × (take ((at.number + 1) - (n + 1)) others ≡ take ((at.number + 1) - (n + 1)) ls)
same_first n l ls ms before at rest e t =
    let range : AllByRecursion (IsNumberedWithin n (n + length (l ∷ ls))) (before ++ at ∷ rest) = rw e at (numbered-range n (n + length (l ∷ ls)) (l ∷ ls) (omega arith)) in
    let low = at_range n (n + length (l ∷ ls)) before at rest range in
    let count : (at.number + 1) - n ≡ suc ((at.number + 1) - (n + 1)) = omega arith in
    of_take ((at.number + 1) - (n + 1)) ms (rw count at t)
  where
    of_take : (k : ℕ) (ms : List (List ℕ)) → take (suc k) ms ≡ take (suc k) (l ∷ ls) → (others : List (List ℕ)) × (ms ≡ l ∷ others) × (take k others ≡ take k ls)
    of_take k [] h = absurd (cc (h))
    of_take k (m ∷ ms) h = let same : m ≡ l = cc (h) in (ms, ap (λ (x : List ℕ). x ∷ ms) same, cc (h))

kept-same : (n : ℕ) (ls ms : List (List ℕ)) (before : List Line) (at : Line) (rest : List Line) → kept n ls ≡ before ++ at ∷ rest
    → take ((at.number + 1) - n) ms ≡ take ((at.number + 1) - n) ls → Continues n ms before at
kept-same n [] ms [] at rest e t = absurd (cc (e))
kept-same n [] ms (b ∷ before) at rest e t = absurd (cc (e))
kept-same n (l ∷ ls) ms [] at rest e t =
    let f = same_first n l ls ms [] at rest e t in
    elim (cases_Bool (is_passed (line_of n l))) [
      | inl holds ↦
          let more = kept-same (n + 1) ls f.0 [] at rest (sym (kept-passed n l ls holds) ∙ e) f.2 in
          (more.0, ap (kept n) f.1 ∙ kept-passed n l f.0 holds ∙ more.1)
      | inr fails ↦
          let same : line_of n l ∷ kept (n + 1) ls ≡ at ∷ rest = sym (kept-stays n l ls fails) ∙ e in
          let first : line_of n l ≡ at = cc (same) in
          (kept (n + 1) f.0, ap (kept n) f.1 ∙ kept-stays n l f.0 fails ∙ ap (λ (x : Line). x ∷ kept (n + 1) f.0) first)
    ]
kept-same n (l ∷ ls) ms (b ∷ before) at rest e t =
    let f = same_first n l ls ms (b ∷ before) at rest e t in
    elim (cases_Bool (is_passed (line_of n l))) [
      | inl holds ↦
          let more = kept-same (n + 1) ls f.0 (b ∷ before) at rest (sym (kept-passed n l ls holds) ∙ e) f.2 in
          (more.0, ap (kept n) f.1 ∙ kept-passed n l f.0 holds ∙ more.1)
      | inr fails ↦
          let same : line_of n l ∷ kept (n + 1) ls ≡ b ∷ (before ++ at ∷ rest) = sym (kept-stays n l ls fails) ∙ e in
          let first : line_of n l ≡ b = cc (same) in
          let others : kept (n + 1) ls ≡ before ++ at ∷ rest = cc (same) in
          let more = kept-same (n + 1) ls f.0 before at rest others f.2 in
          (more.0, ap (kept n) f.1 ∙ kept-stays n l f.0 fails ∙ ap (λ (xs : List Line). line_of n l ∷ xs) more.1 ∙ ap (λ (x : Line). x ∷ (before ++ at ∷ more.0)) first)
    ]

-- a text with the same lines up to this one has the same lines up to it that aren't passed over
pub lines_from-same : (n : ℕ) (bytes others : List ℕ) (before : List Line) (at : Line) (rest : List Line) → lines_from n bytes ≡ before ++ at ∷ rest
    → take ((at.number + 1) - n) (lines others) ≡ take ((at.number + 1) - n) (lines bytes)
    → (more : List Line) × (lines_from n others ≡ before ++ at ∷ more)
unfolding lines_from
lines_from-same n bytes others before at rest e t = kept-same n (lines bytes) (lines others) before at rest e t

-- Lines that are written say their values, line after line.
use Rattle.std.proofs.Common.{◌≡◌, ℕ, suc, ◌+◌, List, [], ◌∷◌, ◌++◌, length, map, refl, sym, ap, ◌∙◌, arith}
use Rattle.std.specs.List.{AllByRecursion}
use Rattle.line_lexer.specs.Lines.{Line, lines_from}
use Rattle.line_lexer.specs.Words.{AreWords, as_lines, spelled}
use Rattle.line_lexer.proofs.Lines.{lines_from_nil}
use Rattle.line_lexer.proofs.Spelled.{lines_from-spelled}
use Rattle.std.proofs.lemmas.List.{append-nil}
use Rattle.parity_text.specs.Spells.{SpellEach}
use Rattle.text_forms.specs.Spelling.{IsOneLine}

-- the lines of what is written are those that were written
pub read_lines : (ls : List (List (List ℕ))) → AllByRecursion AreWords ls → lines_from 1 (spelled ls) ≡ as_lines 1 ls
read_lines ls h =
    let nil : lines_from (1 + length ls) [] ≡ [] = lines_from_nil (1 + length ls) in
    let all : lines_from 1 (spelled ls ++ []) ≡ as_lines 1 ls ++ [] = lines_from-spelled 1 ls [] h
    ∙ ap (λ (t : List Line). as_lines 1 ls ++ t) nil in
    ap (λ (bytes : List ℕ). lines_from 1 bytes) (sym (append-nil (spelled ls))) ∙ all ∙ append-nil (as_lines 1 ls)

pub as_lines-append : (k : ℕ) (xs ys : List (List (List ℕ))) → as_lines k (xs ++ ys) ≡ as_lines k xs ++ as_lines (k + length xs) ys
as_lines-append k [] ys = let e : k + 0 ≡ k = omega arith in rw e refl
as_lines-append k (x ∷ xs) ys =
    let e : k + suc (length xs) ≡ (k + 1) + length xs = omega arith in rw (e, as_lines-append (k + 1) xs ys) refl

pub written_line : {A : Type 0} (S : A → List (List ℕ) → Type 0) (x : A) (k : ℕ) (ws : List (List ℕ)) → S x ws
    → IsOneLine S x (as_lines k (ws ∷ []))
written_line S x k ws h = (k, ws, refl, h)

-- a line for each value
pub written_each : {A : Type 0} (S : A → List (List ℕ) → Type 0) (words : A → List (List ℕ)) (xs : List A) (k : ℕ)
    → AllByRecursion (λ x. S x (words x)) xs → SpellEach (IsOneLine S) xs (as_lines k (map words xs))
written_each S words [] k h = refl
written_each S words (x ∷ xs) k h = (
  as_lines k (words x ∷ []),
  as_lines (k + 1) (map words xs),
  refl,
  written_line S x k (words x) h.0,
  written_each S words xs
      (k + 1) h.1,
)

pub each_line : {A : Type 0} (words : A → List (List ℕ)) (xs : List A) → AllByRecursion (λ x. AreWords (words x)) xs
    → AllByRecursion AreWords (map words xs)
each_line words [] h = tt
each_line words (x ∷ xs) h = (h.0, each_line words xs h.1)

-- A line that is written is read again.
use Rattle.std.proofs.Common.{◌≡◌, ℕ, ◌+◌, ◌^◌, ◌<◌, ◌≤◌, List, [], ◌∷◌, ◌++◌, Ok, refl, lit<}
use Rattle.std.specs.Fmt.{decimal}
use Rattle.line_lexer.specs.Lines.{Line}
use Rattle.line_lexer.specs.Words.{as_lines}
use Rattle.line_lexer.specs.declared.refusal.Counted.{Counted}
use Rattle.text_forms.specs.Places.{fixed}
use Rattle.text_forms.specs.Forms.{Form, line, version, counted, counted_within}
use Rattle.text_forms.specs.Spelling.{IsOneLine, IsNameAndNumeral, Takes}
use Rattle.text_forms.proofs.Numerals.{decimal-numeral}
use Rattle.text_forms.proofs.LinesTake.{Takes-alone, Takes-counted, Takes-version_line, Takes-counted_within}

-- a form that takes one line reads it in front of others
pub written : {A : Type 0} (S : A → List (List ℕ) → Type 0) (form : Form A) → Takes (IsOneLine S) form
    → (last k : ℕ) (ws : List (List ℕ)) (ls : List (List (List ℕ))) (rest : List Line) (x : A)
    → S x ws → form last (as_lines k (ws ∷ ls) ++ rest) ≡ Ok (x, as_lines (k + 1) ls ++ rest)
written S form takes last k ws ls rest x h =
    (takes last (as_lines k (ws ∷ ls) ++ rest) (as_lines (k + 1) ls ++ rest) x).1 (as_lines k (ws ∷ []), refl, (k, ws, refl, h))

name_and_decimal : (name : List ℕ) (n : ℕ) → n < 10 ^ 9 → IsNameAndNumeral name n (name ∷ decimal n ∷ [])
name_and_decimal name n small = (decimal n, refl, decimal-numeral n small)

pub written-version : (name : List ℕ) (last k : ℕ) (ls : List (List (List ℕ))) (rest : List Line)
    → line (version name) last (as_lines k ((name ∷ decimal 1 ∷ []) ∷ ls) ++ rest) ≡ Ok (tt, as_lines (k + 1) ls ++ rest)
written-version name last k ls rest =
    written _ (line (version name)) (Takes-version_line name) last k (name ∷ decimal 1 ∷ []) ls rest tt (name_and_decimal name 1 (lit< tt))

pub written-counted : (name : List ℕ) (n last k : ℕ) (ls : List (List (List ℕ))) (rest : List Line) → n < 10 ^ 9
    → line (counted name) last (as_lines k ((name ∷ decimal n ∷ []) ∷ ls) ++ rest) ≡ Ok (n, as_lines (k + 1) ls ++ rest)
written-counted name n last k ls rest small =
    written _ (line (counted name)) (Takes-counted name) last k (name ∷ decimal n ∷ []) ls rest n (name_and_decimal name n small)

pub written-limited : (name : List ℕ) (what : Counted) (most n last k : ℕ) (ls : List (List (List ℕ))) (rest : List Line) → n < 10 ^ 9
    → n ≤ most
    → line (counted_within name what most) last (as_lines k ((name ∷ decimal n ∷ []) ∷ ls) ++ rest) ≡ Ok (n, as_lines (k + 1) ls ++ rest)
written-limited name what most n last k ls rest small le =
    written _ (line (counted_within name what most)) (Takes-counted_within name what most) last k (name ∷ decimal n ∷ []) ls rest n
    (name_and_decimal name n small, le)

pub written-alone : (name : List ℕ) (last k : ℕ) (ls : List (List (List ℕ))) (rest : List Line)
    → line (fixed name) last (as_lines k ((name ∷ []) ∷ ls) ++ rest) ≡ Ok (tt, as_lines (k + 1) ls ++ rest)
written-alone name last k ls rest = written _ (line (fixed name)) (Takes-alone name) last k (name ∷ []) ls rest tt refl

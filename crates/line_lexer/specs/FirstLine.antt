-- The first line of a text.
use Rattle.std.specs.Prelude.{◌≡◌, ℕ, ◌+◌, ◌≤◌, List, ◌∷◌, length, drop, None, Some}
use Rattle.std.specs.List.{slice_range, before_first}
use Rattle.line_lexer.specs.Bytes.{is_newline}
use Rattle.line_lexer.specs.Lines.{lines_from, content, words}
use Rattle.line_lexer.specs.WordPlaces.{word_places}
use Rattle.line_lexer.specs.declared.first_line.FirstLine.{FirstLine}
use Rattle.line_lexer.specs.declared.first_line.FirstLine.TheVariants.{Bad, Passed, Words}

-- The first line of the text is this, whatever its number, and the others begin at next.
abbrev pub IsFirstLine : List ℕ → ℕ → FirstLine → Type 0
IsFirstLine text next Bad = (n : ℕ) → lines_from n text ≡ record { number = n; words = None } ∷ lines_from (n + 1) (drop next text)
IsFirstLine text next Passed = (n : ℕ) → lines_from n text ≡ lines_from (n + 1) (drop next text)
IsFirstLine text next (Words start end) = ((n : ℕ) → lines_from n text ≡ record { number = n; words = Some (words (slice_range text start end)) } ∷ lines_from (n + 1) (drop next text))
    × ((at : ℕ) → word_places (at + start) (slice_range text start end) ≡ word_places at (content (before_first is_newline text)))
    × (start ≤ end) × (end ≤ length text)

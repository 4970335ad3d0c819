-- Where the words of a line stand in the input.
use Rattle.std.specs.Prelude.{ℕ, zero, suc, ◌+◌, ◌-◌, List, [], ◌∷◌, length, drop, if◌then◌else◌}
use Rattle.std.specs.List.{slice_split, before_first, after_first, position_or_len}
use Rattle.line_lexer.specs.Bytes.{is_newline, is_gap}
use Rattle.line_lexer.specs.Lines.{is_empty, content}

-- where the parts that aren't empty begin and end, if the first begins at this place and one byte stands between two
abbrev pub places_of : ℕ → List (List ℕ) → List (ℕ × ℕ)
places_of at [] = []
places_of at (part ∷ more) = if is_empty part then places_of (at + 1) more else (at, at + length part) ∷ places_of (at + length part + 1) more

-- where the longest runs of word bytes begin and end, in a text that begins at this place
unfoldable pub word_places : ℕ → List ℕ → List (ℕ × ℕ)
word_places at text = places_of at (slice_split is_gap text)

-- where a line begins before which so many lines come
unfoldable pub line_start : ℕ → List ℕ → ℕ
line_start zero bytes = 0
line_start (suc n) bytes = position_or_len is_newline bytes + 1 + line_start n (after_first is_newline bytes)

-- where the words of a line stand that begins at this place
abbrev pub places_at : List ℕ → ℕ → List (ℕ × ℕ)
places_at bytes at = word_places at (content (before_first is_newline (drop at bytes)))

-- where the words of the line of this number stand
unfoldable pub places_on : List ℕ → ℕ → List (ℕ × ℕ)
places_on bytes number = places_at bytes (line_start (number - 1) bytes)

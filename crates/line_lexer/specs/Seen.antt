-- What a lexer is seen as.
use Rattle.std.specs.Prelude.{◌≡◌, ℕ, List, ◌+◌, ◌≤◌, min, length, drop}
use Rattle.std.specs.List.{slice_range}
use Rattle.line_lexer.specs.Lines.{Line, lines, lines_from, words}
use Rattle.line_lexer.specs.WordPlaces.{word_places, line_start}

-- the bytes that a text may have
abbrev pub most_bytes : ℕ
most_bytes = 4194304

-- all the bytes, the lines not yet taken, the number of the line that was last taken, the words left on it, and where each of them begins and ends
pub record Seen : Type 0 where
  pub bytes : List ℕ
  pub ahead : List Line
  pub line : ℕ
  pub words : List (List ℕ)
  pub places : List (ℕ × ℕ)

-- the lines from a place on, which comes after so many lines, and the words between two places
abbrev pub seen_at : List ℕ → ℕ → ℕ → ℕ → ℕ → ℕ → Seen
seen_at bytes at passed line word end = record { bytes = bytes; ahead = lines_from (passed + 1) (drop at bytes); line = line; words = words (slice_range bytes word end); places = word_places word (slice_range bytes word end) }

-- a line begins at the place, or the text ends there, and so many lines come before it
pub record IsPlace (bytes : List ℕ) (at passed : ℕ) : Type 0 where
  pub few : length bytes ≤ most_bytes
  pub within : at ≤ length bytes
  pub short : passed ≤ at
  pub begins : at ≡ min (line_start passed bytes) (length bytes)
  pub counted : passed + length (lines (drop at bytes)) ≡ length (lines bytes)

-- the places and numbers that a lexer holds
pub record IsInside (bytes : List ℕ) (at passed line word end : ℕ) : Type 0 where
  pub place : IsPlace bytes at passed
  pub line_in : line ≤ length (lines bytes)
  pub word_in : word ≤ end
  pub end_in : end ≤ length bytes

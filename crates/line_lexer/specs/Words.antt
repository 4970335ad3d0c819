-- What words are, and how lines of words are written.
use Rattle.std.specs.Prelude.{◌≡◌, ℕ, ◌+◌, ◌<◌, ◌≤◌, List, [], ◌∷◌, ◌++◌, length, Bool, true, not, ◌&&◌, Some, IfSome}
use Rattle.std.specs.List.{AllByRecursion, list_all, flat_map, join_with_byte}
use Rattle.line_lexer.specs.Bytes.{is_hash, is_word_byte}
use Rattle.line_lexer.specs.Lines.{Line}

-- 0x21 to 0x7E, but no hash
abbrev pub is_in_word : ℕ → Bool
is_in_word b = is_word_byte b && not (is_hash b)

-- one byte or more, each of which a word may have
pub record IsWord (word : List ℕ) : Type 0 where
  pub some : 0 < length word
  pub bytes : list_all is_in_word word ≡ true

-- one word or more
pub record AreWords (ws : List (List ℕ)) : Type 0 where
  pub some : 0 < length ws
  pub each : AllByRecursion IsWord ws

-- A line that isn't passed over has words, or a bad byte.
abbrev pub HasWords : Line → Type 0
HasWords line = IfSome line.words AreWords

-- The line's number is n or more, and below end.
abbrev pub IsNumberedWithin : ℕ → ℕ → Line → Type 0
IsNumberedWithin n end line = (n ≤ line.number) × (line.number < end)

-- one space between words, and a newline at the end
unfoldable pub line_text : List (List ℕ) → List ℕ
line_text ws = join_with_byte 32 ws ++ 10 ∷ []

-- lines of words, as they are written
unfoldable pub spelled : List (List (List ℕ)) → List ℕ
spelled ls = flat_map line_text ls

-- lines of words, as they are read, where the first has the number n
abbrev pub as_lines : ℕ → List (List (List ℕ)) → List Line
as_lines n [] = []
as_lines n (ws ∷ more) = record { number = n; words = Some ws } ∷ as_lines (n + 1) more

-- The lines of a text, their comments, their words and their bad bytes, over all its bytes.
use Rattle.std.specs.Prelude.{ℕ, ◌+◌, List, [], ◌∷◌, Bool, true, false, not, if◌then◌else◌, Option, None, Some, filter}
use Rattle.std.specs.List.{slice_split, before_first, list_all}
use Rattle.std.specs.Str.Lines.{strip_carriage_return}
use Rattle.line_lexer.specs.Bytes.{is_newline, is_hash, is_gap, is_allowed}

-- it has no element
abbrev pub is_empty : {A : Type 0} → List A → Bool
is_empty [] = true
is_empty (x ∷ xs) = false

-- the parts between newlines, but an empty last part is no line
abbrev pub without_empty_last : List (List ℕ) → List (List ℕ)
without_empty_last [] = []
without_empty_last (x ∷ []) = if is_empty x then [] else x ∷ []
without_empty_last (x ∷ y ∷ more) = x ∷ without_empty_last (y ∷ more)

-- all lines of a text, each without its newline
unfoldable pub lines : List ℕ → List (List ℕ)
lines bytes = without_empty_last (slice_split is_newline bytes)

-- what a line has before its comment and its end: one carriage return belongs to the end
unfoldable pub content : List ℕ → List ℕ
content line = before_first is_hash (strip_carriage_return line)

-- a part between gaps is a word if it isn't empty
abbrev pub is_some_word : List ℕ → Bool
is_some_word part = not (is_empty part)

-- the longest runs of word bytes
unfoldable pub words : List ℕ → List (List ℕ)
words text = filter is_some_word (slice_split is_gap text)

-- a line by its number, with its words, or with none where it has a bad byte
pub record Line : Type 0 where
  pub number : ℕ
  pub words : Option (List (List ℕ))

-- a line of bytes by its number: its words, if what it has before its comment and its end is allowed
abbrev pub line_of : ℕ → List ℕ → Line
line_of n line = record { number = n; words = if list_all is_allowed (content line) then Some (words (content line)) else None }

-- it has no word, and no bad byte
abbrev pub is_without_words : Option (List (List ℕ)) → Bool
is_without_words None = false
is_without_words (Some ws) = is_empty ws

-- A line without words is passed over; one with a bad byte isn't.
abbrev pub is_passed : Line → Bool
is_passed line = is_without_words line.words

-- the lines by their numbers, where the first has the number n
abbrev pub numbered : ℕ → List (List ℕ) → List Line
numbered n [] = []
numbered n (x ∷ xs) = line_of n x ∷ numbered (n + 1) xs

-- the lines of a text that aren't passed over, where its first line has the number n
unfoldable pub lines_from : ℕ → List ℕ → List Line
lines_from n bytes = filter (λ line. not (is_passed line)) (numbered n (lines bytes))

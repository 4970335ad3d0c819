-- The places of a line: each takes its words from the front of those that are left.
use Rattle.std.specs.Prelude.{ℕ, zero, suc, ◌-◌, max, List, [], ◌∷◌, length, ◌==◌, ◌&&◌, nat_le, nat_lt, if◌then◌else◌, Option, None}
use Rattle.std.specs.Prelude.{Some, Ok, Err}
use Rattle.std.specs.Str.{bytes_eq}
use Rattle.line_lexer.specs.Numbers.{number_of}
use Rattle.line_lexer.specs.declared.fault.TextFault.TheVariants.{Word, Version, Number, Range, Order, Count}
use Rattle.line_lexer.specs.declared.refusal.Counted.{Counted}
use Rattle.line_lexer.specs.declared.refusal.TextRefusal.TheVariants.{Bad}
use Rattle.text_forms.specs.Reading.{Reads, ◌>>=◌, give, fault, above}

-- by the line's number: a value of the words at the front
abbrev pub Place : Type 0 → Type 0
Place A = Reads (List ℕ) A

-- the word that is due
abbrev pub word : Place (List ℕ)
word line [] = Err (Bad line Count)
word line (w ∷ ws) = Ok (w, ws)

-- no word is left
abbrev pub ended : Place (Unit {0})
ended line [] = Ok (tt, [])
ended line (w ∷ ws) = Err (Bad line Count)

-- a word that is this text
unfoldable pub fixed : List ℕ → Place (Unit {0})
fixed text = do
  w ← word
  if bytes_eq w text then give tt else fault Word

-- the number that a word spells, or the fault that it spells none
abbrev pub spelled_number : Option ℕ → Place ℕ
spelled_number None = fault Number
spelled_number (Some n) = give n

-- a word that spells a number
unfoldable pub number : Place ℕ
number = do
  w ← word
  spelled_number (number_of w)

-- the version, 1
unfoldable pub version_number : Place (Unit {0})
version_number = do
  n ← number
  if n == 1 then give tt else fault Version

-- a number up to a limit
unfoldable pub limited : Counted → ℕ → Place ℕ
limited what most = do
  n ← number
  if nat_le n most then give n else above what n

-- a number below a field's order
unfoldable pub entry : ℕ → Place ℕ
entry order = do
  n ← number
  if nat_lt n order then give n else fault Range

-- the number in 1 to lines, above the one before it
unfoldable pub as_position : ℕ → ℕ → ℕ → Place ℕ
as_position lines before n = if nat_le 1 n && nat_le n lines then (if nat_lt before n then give n else fault Order) else fault Range

-- a position in 1 to lines, above the one before it
unfoldable pub position : ℕ → ℕ → Place ℕ
position lines before = do
  n ← number
  as_position lines before n

-- such a position, or none at the end of the line
unfoldable pub position_or_end : ℕ → ℕ → Place (Option ℕ)
position_or_end lines before line [] = Ok (None, [])
position_or_end lines before line (w ∷ ws) = option_position line (w ∷ ws)
  where
    option_position : Place (Option ℕ)
    option_position = do
      p ← position lines before
      give (Some p)

-- so many positions, each above the one before it; they count from 1, and their values from 0
unfoldable pub positions_above : ℕ → ℕ → ℕ → Place (List ℕ)
positions_above zero lines before = give []
positions_above (suc count) lines before = do
  p ← position lines before
  ps ← positions_above count lines p
  give ((p - 1) ∷ ps)

-- so many increasing positions
abbrev pub positions : ℕ → ℕ → Place (List ℕ)
positions count lines = positions_above count lines 0

-- one increasing position or more, up to the end of the line: as many as it has words, but one at least
unfoldable pub some_positions : ℕ → Place (List ℕ)
some_positions lines line words = positions (max 1 (length words)) lines line words

-- the same reader so many times
unfoldable pub times : {T A : Type 0} → ℕ → Reads T A → Reads T (List A)
times zero place = give []
times (suc n) place = do
  x ← place
  xs ← times n place
  give (x ∷ xs)

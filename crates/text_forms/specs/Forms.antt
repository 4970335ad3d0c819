-- The lines of a text: each form takes its lines from the front of those that are left.
use Rattle.std.specs.Prelude.{ℕ, ◌+◌, List, [], ◌∷◌, length, Option, None, Some, Result, Ok, Err}
use Rattle.line_lexer.specs.Lines.{Line, lines, lines_from}
use Rattle.line_lexer.specs.declared.fault.TextFault.{TextFault}
use Rattle.line_lexer.specs.declared.fault.TextFault.TheVariants.{Byte, Missing, Extra}
use Rattle.line_lexer.specs.declared.refusal.Counted.{Counted}
use Rattle.line_lexer.specs.declared.refusal.TextRefusal.{TextRefusal}
use Rattle.line_lexer.specs.declared.refusal.TextRefusal.TheVariants.{Bad}
use Rattle.text_forms.specs.Reading.{Reads, ◌>>=◌, give}
use Rattle.text_forms.specs.Places.{Place, ended, fixed, number, version_number, limited}

-- by the number of the text's last line: a value of the lines at the front
abbrev pub Form : Type 0 → Type 0
Form A = Reads Line A

-- the words of a line; it has none where a byte is bad
abbrev pub words_of : ℕ → Option (List (List ℕ)) → List Line → Result ((ℕ × List (List ℕ)) × List Line) TextRefusal
words_of number None more = Err (Bad number Byte)
words_of number (Some ws) more = Ok ((number, ws), more)

-- the line that is due, by its number and its words
unfoldable pub due : Form (ℕ × List (List ℕ))
due last [] = Err (Bad (last + 1) Missing)
due last (l ∷ more) = words_of l.number l.words more

-- a place that takes all words that are left
abbrev pub whole : {A : Type 0} → Place A → Place A
whole place = do
  x ← place
  _ ← ended
  give x

-- what the words of a line gave
abbrev pub of_words : {A : Type 0} → Result (A × List (List ℕ)) TextRefusal → Form A
of_words (Ok x) last text = Ok (x.0, text)
of_words (Err e) last text = Err e

-- a line whose words are those of the place
unfoldable pub line : {A : Type 0} → Place A → Form A
line place = do
  l ← due
  of_words (whole place l.0 l.1)

-- what is wrong with a line that is left, by its words
abbrev pub extra : Option (List (List ℕ)) → TextFault
extra None = Byte
extra (Some ws) = Extra

-- no line is left
unfoldable pub finished : Form (Unit {0})
finished last [] = Ok (tt, [])
finished last (l ∷ more) = Err (Bad l.number (extra l.words))

-- a name and the version
unfoldable pub version : List ℕ → Place (Unit {0})
version name = do
  _ ← fixed name
  version_number

-- a name and a number
unfoldable pub counted : List ℕ → Place ℕ
counted name = do
  _ ← fixed name
  number

-- a name and a number up to a limit
unfoldable pub counted_within : List ℕ → Counted → ℕ → Place ℕ
counted_within name what most = do
  _ ← fixed name
  limited what most

-- the form, and then the end of the text
abbrev pub whole_text : {A : Type 0} → Form A → Form A
whole_text form = do
  x ← form
  _ ← finished
  give x

-- what the form gives of the lines of a text
abbrev pub of_text : {A : Type 0} → Form A → List ℕ → Result (A × List Line) TextRefusal
of_text form bytes = form (length (lines bytes)) (lines_from 1 bytes)

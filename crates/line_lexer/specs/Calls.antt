-- What the calls of a lexer do.
use Rattle.std.specs.Prelude.{◌≡◌, ℕ, ◌≤◌, List, [], ◌∷◌, length, Bool, true, false, Option, None, Some, Result, Ok, Err}
use Rattle.std.specs.List.{slice_range}
use Rattle.line_lexer.specs.Lines.{Line}
use Rattle.line_lexer.specs.Numbers.{number_of}
use Rattle.line_lexer.specs.Seen.{Seen}
use Rattle.line_lexer.specs.WordPlaces.{places_on}
use Rattle.line_lexer.specs.declared.fault.LexFault.{LexFault}
use Rattle.line_lexer.specs.declared.fault.TextFault.TheVariants.{Byte, Number}
use Rattle.line_lexer.specs.declared.token.Token.{Token}

-- the part of the bytes where a token stands
abbrev pub text_at : List ℕ → Token → List ℕ
text_at bytes t = slice_range bytes t.start t.end

-- no word is left on the line, and the lines ahead and the line stay
pub record LeavesLine (old new : Seen) : Type 0 where
  pub ahead : new.ahead ≡ old.ahead
  pub line : new.line ≡ old.line
  pub words : new.words ≡ []
  pub places : new.places ≡ []

-- True takes the first line ahead, with its words where they stand in the input. False says that none is ahead. A fault says that the first line ahead has a bad byte, and leaves it there.
abbrev pub GoesOn : Seen → Seen → Result Bool LexFault → Type 0
GoesOn old new (Ok true) = (old.ahead ≡ record { number = new.line; words = Some new.words } ∷ new.ahead) × (new.places ≡ places_on new.bytes new.line)
GoesOn old new (Ok false) = (old.ahead ≡ []) × LeavesLine old new
GoesOn old new (Err fault) = (more : List Line) × (old.ahead ≡ record { number = fault.line; words = None } ∷ more) × (fault.kind ≡ Byte) × LeavesLine old new

-- only the words left on the line change
pub record SameLine (old new : Seen) : Type 0 where
  pub bytes : new.bytes ≡ old.bytes
  pub ahead : new.ahead ≡ old.ahead
  pub line : new.line ≡ old.line

-- the token stands on the line, within the bytes
pub record IsToken (line : ℕ) (bytes : List ℕ) (t : Token) : Type 0 where
  pub on_line : t.line ≡ line
  pub order : t.start ≤ t.end
  pub within : t.end ≤ length bytes

-- the next word of the line, at its place, or none where no word is left
abbrev pub TakesWord : Seen → Seen → Option Token → Type 0
TakesWord old new None = (old.words ≡ []) × (new.words ≡ []) × (old.places ≡ []) × (new.places ≡ [])
TakesWord old new (Some t) = (old.words ≡ text_at old.bytes t ∷ new.words) × (old.places ≡ (t.start, t.end) ∷ new.places) × IsToken old.line old.bytes t

-- the number that a word spells, or the fault Number on its line
abbrev pub ReadsNumber : List ℕ → ℕ → Result ℕ LexFault → Type 0
ReadsNumber word line (Ok n) = number_of word ≡ Some n
ReadsNumber word line (Err fault) = (number_of word ≡ None) × (fault ≡ record { line = line; kind = Number })

-- What a form gives depends on the lines that it takes alone.
use Rattle.std.specs.Prelude.{◌≡◌, ℕ, ◌+◌, ◌⊎◌, List, [], ◌∷◌, ◌++◌, take, Ok, Err}
use Rattle.line_lexer.specs.Lines.{Line, lines}
use Rattle.line_lexer.specs.declared.fault.TextFault.TheVariants.{Missing}
use Rattle.line_lexer.specs.declared.refusal.TextRefusal.{TextRefusal}
use Rattle.line_lexer.specs.declared.refusal.TextRefusal.TheVariants.{Bad, Limit, OutOfMemory}
use Rattle.text_forms.specs.Places.{Place}
use Rattle.text_forms.specs.Forms.{Form, of_text}

-- a fault stands on the line
abbrev pub IsOnLine : TextRefusal → ℕ → Type 0
IsOnLine (Bad line kind) number = number ≡ line
IsOnLine (Limit what found) number = Unit {0}
IsOnLine OutOfMemory number = Unit {0}

-- the faults of a place are on its line
abbrev pub FaultsOnLine : {A : Type 0} → Place A → Type 0
FaultsOnLine place = (line : ℕ) (words : List (List ℕ)) (e : TextRefusal) → place line words ≡ Err e → IsOnLine e line

-- every text that begins with these lines gives the value and leaves the others, whatever they are
abbrev pub GivesAfter : {A : Type 0} → Form A → List Line → A → Type 0
GivesAfter form front x = (last : ℕ) (rest : List Line) → form last (front ++ rest) ≡ Ok (x, rest)

-- every text that begins with these lines is refused in this way, whatever follows
abbrev pub RefusesAfter : {A : Type 0} → Form A → List Line → TextRefusal → Type 0
RefusesAfter form front e = (last : ℕ) (rest : List Line) → form last (front ++ rest) ≡ Err e

-- the lines of the text up to one are refused in this way, and a fault stands on that one
pub record IsRefusedAtLine {A : Type 0} (form : Form A) (text : List Line) (e : TextRefusal) : Type 0 where
  pub before : List Line
  pub at : Line
  pub rest : List Line
  pub text_is : text ≡ before ++ at ∷ rest
  pub on_line : IsOnLine e at.number
  pub refuses : RefusesAfter form (before ++ at ∷ []) e

-- A value comes of the lines taken alone.
abbrev pub GivesCausally : {A : Type 0} → Form A → Type 0
GivesCausally {A} form = (last : ℕ) (text rest : List Line) (x : A) → form last text ≡ Ok (x, rest)
    → (front : List Line) × (text ≡ front ++ rest) × GivesAfter form front x

-- A refusal comes of the lines up to its line alone, or it is Missing after the last line.
abbrev pub RefusesCausally : {A : Type 0} → Form A → Type 0
RefusesCausally form = (last : ℕ) (text : List Line) (e : TextRefusal) → form last text ≡ Err e
    → (e ≡ Bad (last + 1) Missing) ⊎ IsRefusedAtLine form text e

-- Every text with the same lines up to this one is refused in the same way.
abbrev pub RefusesAlike : {A : Type 0} → Form A → List ℕ → ℕ → TextRefusal → Type 0
RefusesAlike form bytes line e = (others : List ℕ) → take line (lines others) ≡ take line (lines bytes) → of_text form others ≡ Err e

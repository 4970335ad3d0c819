-- What a reader of the code gave is what the form gives.
use Rattle.std.specs.Prelude.{◌≡◌, ◌≢◌, Result, Ok, Err}
use Rattle.line_lexer.specs.declared.refusal.Counted.TheVariants.{Bytes}
use Rattle.line_lexer.specs.declared.refusal.TextRefusal.{TextRefusal}
use Rattle.line_lexer.specs.declared.refusal.TextRefusal.TheVariants.{Bad, Limit, OutOfMemory}

-- the refusal, unless memory ran out
abbrev pub Fails : {Y : Type 0} → TextRefusal → Result Y TextRefusal → Type 0
Fails OutOfMemory read = Unit {0}
Fails (Bad line kind) read = read ≡ Err (Bad line kind)
Fails (Limit what found) read = read ≡ Err (Limit what found)

-- the value, as view sees it, or the refusal
abbrev pub Gives : {X Y : Type 0} → (X → Y) → Result X TextRefusal → Result Y TextRefusal → Type 0
Gives view (Ok x) read = read ≡ Ok (view x)
Gives view (Err e) read = Fails e read

-- The limit on all bytes is no refusal of a text's reader.
abbrev pub IsOfText : TextRefusal → Type 0
IsOfText OutOfMemory = Unit {0}
IsOfText (Bad line kind) = Unit {0}
IsOfText (Limit what found) = what ≢ Bytes

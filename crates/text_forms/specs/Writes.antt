-- What a writer leaves.
use Rattle.std.specs.Prelude.{◌≡◌, ℕ, List, ◌++◌, Result, Ok, Err}

-- the text stands behind what was there, or after an error some front of it
abbrev pub Writes : {T E : Type 0} → List ℕ → List ℕ → List ℕ → Result T E → Type 0
Writes old new text (Ok _) = new ≡ old ++ text
Writes old new text (Err _) = (front rest : List ℕ) × (text ≡ front ++ rest) × (new ≡ old ++ front)

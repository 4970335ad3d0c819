-- Laws of meanings: a name before a place, one line or many, and vectors.
use Rattle.std.proofs.Common.{◌≡◌, ℕ, ◌↔◌, List, [], ◌∷◌, ◌++◌, refl, ap, ◌∙◌}
use Rattle.line_lexer.specs.Lines.{Line}
use Rattle.parity_text.specs.Spells.{SpellsVector, Named, SpellEach}
use Rattle.parity_text.specs.Texts.{vector}
use Rattle.text_forms.specs.Places.{Place, fixed}
use Rattle.text_forms.specs.Reading.{◌>>=◌}
use Rattle.text_forms.specs.Spelling.{IsOneLine, Takes, Fills}
use Rattle.text_forms.proofs.Taking.{Takes-bind, Takes-as}
use Rattle.text_forms.proofs.LinesTake.{Fills-bind, Fills-same}
use Rattle.text_forms.proofs.ListsTake.{SpellsTimes, Takes-entries}
use Rattle.text_forms.proofs.PlacesTake.{Takes-fixed}

named_parts : {A : Type 0} (name : List ℕ) (S : A → List (List ℕ) → Type 0) (x : A) (ws : List (List ℕ))
    → ((y : Unit {0}) × (front : List (List ℕ)) × (back : List (List ℕ)) × (ws ≡ front ++ back) × (front ≡ name ∷ []) × S x back)
    ↔ Named name S x ws
named_parts name S x ws = (
  λ h. (h.2, h.3 ∙ ap (λ (t : List (List ℕ)). t ++ h.2) h.4, h.5),
  λ h. (tt, name ∷ [], h.0, h.1, refl, h.2),
)

-- a name, and then what the place takes
pub Takes-named : {A : Type 0} (name : List ℕ) (S : A → List (List ℕ) → Type 0) (place : Place A) → Takes S place
    → Takes (Named name S) (fixed name >>= λ _. place)
Takes-named name S place takes =
    Takes-as (fixed name >>= λ _. place)
    (Takes-bind (λ y ws. ws ≡ name ∷ []) (λ y. S) (fixed name) (λ _. place) (Takes-fixed name) (λ _. takes)) (named_parts name S)

pub Fills-named : {A : Type 0} (name : List ℕ) (S : A → List (List ℕ) → Type 0) (place : Place A) → Fills S place
    → Fills (Named name S) (fixed name >>= λ _. place)
Fills-named name S place fills =
    Fills-same _ (Named name S) (fixed name >>= λ _. place) (named_parts name S)
    (Fills-bind (λ y ws. ws ≡ name ∷ []) (λ y. S) (fixed name) (λ _. place) (Takes-fixed name) (λ _. fills))

pub Takes-vector : (q d : ℕ) → Takes (SpellsVector q d) (vector q d)
Takes-vector q d =
    Takes-as (vector q d) (Takes-entries d q)
    (λ v ws. (λ h. record { long = h.0; below = h.2; numerals = h.1 }, λ h. (h.long, h.numerals, h.below)))

pub each_of_times : {T A : Type 0} (S : A → List T → Type 0) (xs : List A) (left : List T) → SpellsTimes S xs left → SpellEach S xs left
each_of_times S [] left h = h
each_of_times S (x ∷ xs) left h = (h.0, h.1, h.2, h.3, each_of_times S xs h.1 h.4)

pub times_of_each : {T A : Type 0} (S : A → List T → Type 0) (xs : List A) (left : List T) → SpellEach S xs left → SpellsTimes S xs left
times_of_each S [] left h = h
times_of_each S (x ∷ xs) left h = (h.0, h.1, h.2, h.3, times_of_each S xs h.1 h.4)

-- what is said of a line's value beside its words
pub line_and : {A : Type 0} (S : A → List (List ℕ) → Type 0) (P : A → Type 0) (x : A) (ls : List Line)
    → IsOneLine (λ y ws. S y ws × P y) x ls ↔ (IsOneLine S x ls × P x)
line_and S P x ls = (
  λ h. ((h.0, h.1, h.2, h.3.0), h.3.1),
  λ h. (h.0.0, h.0.1, h.0.2, (h.0.3, h.1)),
)

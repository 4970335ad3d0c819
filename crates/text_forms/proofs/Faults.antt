-- The faults of the places are on their line.
use Rattle.std.proofs.Common.{◌≡◌, ℕ, zero, suc, ◌-◌, List, [], ◌∷◌, length, max, Bool, true, false, cond, None, Some, Option, refl}
use Rattle.std.proofs.Common.{subst, inl, inr, ltb, leb, eqb}
use Rattle.std.specs.Prelude.{◌&&◌}
use Rattle.std.specs.Str.{bytes_eq}
use Rattle.line_lexer.specs.Numbers.{number_of}
use Rattle.line_lexer.specs.declared.fault.TextFault.{TextFault}
use Rattle.line_lexer.specs.declared.fault.TextFault.TheVariants.{Word, Version, Number, Range, Order, Count}
use Rattle.line_lexer.specs.declared.refusal.Counted.{Counted}
use Rattle.line_lexer.specs.declared.refusal.TextRefusal.{TextRefusal}
use Rattle.line_lexer.specs.declared.refusal.TextRefusal.TheVariants.{Bad, Limit}
use Rattle.text_forms.specs.Reading.{◌>>=◌, give, fault, above}
use Rattle.text_forms.specs.Places.{Place, word, fixed, spelled_number, number, version_number, limited, entry, as_position, position}
use Rattle.text_forms.specs.Places.{positions_above, some_positions, times}
use Rattle.text_forms.specs.Forms.{version, counted, counted_within}
use Rattle.text_forms.specs.Causality.{IsOnLine, FaultsOnLine}
use Rattle.text_forms.proofs.Taking.{bind_err}

pub FaultsOnLine-give : {A : Type 0} (x : A) → FaultsOnLine {A = A} (give x)
FaultsOnLine-give x at words e h = absurd (cc (h))

pub FaultsOnLine-fault : {A : Type 0} (kind : TextFault) → FaultsOnLine {A = A} (fault kind)
FaultsOnLine-fault kind at words e h = let same : Bad at kind ≡ e = cc (h) in subst (λ (d : TextRefusal). IsOnLine d at) same refl

pub FaultsOnLine-above : {A : Type 0} (what : Counted) (found : ℕ) → FaultsOnLine {A = A} (above what found)
FaultsOnLine-above what found at words e h = let same : Limit what found ≡ e = cc (h) in subst (λ (d : TextRefusal). IsOnLine d at) same tt

pub FaultsOnLine-bind : {A B : Type 0} (first : Place A) (next : A → Place B) → FaultsOnLine first → ((x : A) → FaultsOnLine (next x))
    → FaultsOnLine (first >>= next)
FaultsOnLine-bind first next one two at words e h =
    elim (bind_err next at (first at words) e h) [
      | inl at_first ↦ one at words e at_first
      | inr at_next ↦ two at_next.0.0 at at_next.0.1 e at_next.2
    ]

pub FaultsOnLine-if : {A : Type 0} (b : Bool) (one other : Place A) → FaultsOnLine one → FaultsOnLine other
    → FaultsOnLine (cond b one other)
FaultsOnLine-if true one other o t = o
FaultsOnLine-if false one other o t = t

pub FaultsOnLine-word : FaultsOnLine word
FaultsOnLine-word at [] e h = let same : Bad at Count ≡ e = cc (h) in subst (λ (d : TextRefusal). IsOnLine d at) same refl
FaultsOnLine-word at (w ∷ ws) e h = absurd (cc (h))

pub FaultsOnLine-fixed : (text : List ℕ) → FaultsOnLine (fixed text)
unfolding fixed
FaultsOnLine-fixed text = FaultsOnLine-bind word _ FaultsOnLine-word
    (λ w. FaultsOnLine-if (bytes_eq w text) (give tt) (fault Word) (FaultsOnLine-give tt) (FaultsOnLine-fault Word))

spelled : (o : Option ℕ) → FaultsOnLine (spelled_number o)
spelled None at words e h = FaultsOnLine-fault Number at words e h
spelled (Some n) at words e h = FaultsOnLine-give n at words e h

pub FaultsOnLine-number : FaultsOnLine number
unfolding number
FaultsOnLine-number = FaultsOnLine-bind word _ FaultsOnLine-word (λ w. spelled (number_of w))

pub FaultsOnLine-version_number : FaultsOnLine version_number
unfolding version_number
FaultsOnLine-version_number = FaultsOnLine-bind number _ FaultsOnLine-number
    (λ n. FaultsOnLine-if (eqb n 1) (give tt) (fault Version) (FaultsOnLine-give tt) (FaultsOnLine-fault Version))

pub FaultsOnLine-limited : (what : Counted) (most : ℕ) → FaultsOnLine (limited what most)
unfolding limited
FaultsOnLine-limited what most =
    FaultsOnLine-bind number _ FaultsOnLine-number
    (λ n. FaultsOnLine-if (leb n most) (give n) (above what n) (FaultsOnLine-give n) (FaultsOnLine-above what n))

pub FaultsOnLine-entry : (order : ℕ) → FaultsOnLine (entry order)
unfolding entry
FaultsOnLine-entry order = FaultsOnLine-bind number _ FaultsOnLine-number
    (λ n. FaultsOnLine-if (ltb n order) (give n) (fault Range) (FaultsOnLine-give n) (FaultsOnLine-fault Range))

pub FaultsOnLine-position : (lines before : ℕ) → FaultsOnLine (position lines before)
unfolding position as_position
FaultsOnLine-position lines before =
    FaultsOnLine-bind number _ FaultsOnLine-number
    (λ n. FaultsOnLine-if (leb 1 n && leb n lines) (cond (ltb before n) (give n) (fault Order)) (fault Range)
    (FaultsOnLine-if (ltb before n) (give n) (fault Order) (FaultsOnLine-give n) (FaultsOnLine-fault Order)) (FaultsOnLine-fault Range))

pub FaultsOnLine-positions_above : (count lines before : ℕ) → FaultsOnLine (positions_above count lines before)
unfolding positions_above
FaultsOnLine-positions_above zero lines before = FaultsOnLine-give []
FaultsOnLine-positions_above (suc count) lines before =
    FaultsOnLine-bind (position lines before) _ (FaultsOnLine-position lines before)
    (λ p. FaultsOnLine-bind (positions_above count lines p) _ (FaultsOnLine-positions_above count lines p)
    (λ ps. FaultsOnLine-give ((p - 1) ∷ ps)))

pub FaultsOnLine-some_positions : (lines : ℕ) → FaultsOnLine (some_positions lines)
unfolding some_positions
FaultsOnLine-some_positions lines at words e h = FaultsOnLine-positions_above (max 1 (length words)) lines 0 at words e h

pub FaultsOnLine-times : {A : Type 0} (n : ℕ) (place : Place A) → FaultsOnLine place → FaultsOnLine (times n place)
unfolding times
FaultsOnLine-times zero place faults = FaultsOnLine-give []
FaultsOnLine-times (suc n) place faults =
    FaultsOnLine-bind place _ faults
    (λ x. FaultsOnLine-bind (times n place) _ (FaultsOnLine-times n place faults) (λ xs. FaultsOnLine-give (x ∷ xs)))

pub FaultsOnLine-version : (name : List ℕ) → FaultsOnLine (version name)
unfolding version
FaultsOnLine-version name = FaultsOnLine-bind (fixed name) _ (FaultsOnLine-fixed name) (λ _. FaultsOnLine-version_number)

pub FaultsOnLine-counted : (name : List ℕ) → FaultsOnLine (counted name)
unfolding counted
FaultsOnLine-counted name = FaultsOnLine-bind (fixed name) _ (FaultsOnLine-fixed name) (λ _. FaultsOnLine-number)

pub FaultsOnLine-counted_within : (name : List ℕ) (what : Counted) (most : ℕ) → FaultsOnLine (counted_within name what most)
unfolding counted_within
FaultsOnLine-counted_within name what most =
    FaultsOnLine-bind (fixed name) _ (FaultsOnLine-fixed name) (λ _. FaultsOnLine-limited what most)

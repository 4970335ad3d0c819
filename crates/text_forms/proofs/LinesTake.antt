-- Which values the lines give: those that their words spell.
use Rattle.std.proofs.Common.{◌≡◌, ℕ, ◌≤◌, ◌↔◌, List, [], ◌∷◌, ◌++◌, length, None, Some, Option, Result, Ok, Err, refl, sym, ap, ◌∙◌, subst}
use Rattle.std.proofs.lemmas.List.{append-nil}
use Rattle.line_lexer.specs.Lines.{Line, lines, lines_from}
use Rattle.line_lexer.specs.declared.refusal.Counted.{Counted}
use Rattle.line_lexer.specs.declared.refusal.TextRefusal.{TextRefusal}
use Rattle.text_forms.specs.Reading.{◌>>=◌, give}
use Rattle.text_forms.specs.Places.{Place, ended, fixed, number, version_number, limited}
use Rattle.text_forms.specs.Forms.{Form, due, whole, of_words, line, finished, whole_text, of_text, version, counted, counted_within}
use Rattle.text_forms.specs.Spelling.{IsOneNumeral, IsNameAndNumeral, IsOneLine, Takes, Fills}
use Rattle.text_forms.proofs.Taking.{bind_ok, same_given, Takes-bind, Takes-same}
use Rattle.text_forms.proofs.PlacesTake.{Takes-fixed, Takes-number, Takes-version, Takes-limited}

pub Fills-from_Takes : {A : Type 0} (S : A → List (List ℕ) → Type 0) (place : Place A) → Takes S place → Fills S place
Fills-from_Takes S place takes at words x = (
  λ e. let h = (takes at words [] x).0 e in subst (λ (t : List (List ℕ)). S x t) (sym (h.1 ∙ append-nil h.0)) h.2,
  λ h. (takes at words [] x).1 (words, sym (append-nil words), h),
)

pub Fills-same : {A : Type 0} (S R : A → List (List ℕ) → Type 0) (place : Place A) → ((x : A) (ws : List (List ℕ)) → S x ws ↔ R x ws)
    → Fills S place → Fills R place
Fills-same S R place same fills at words x = (
  λ e. (same x words).0 ((fills at words x).0 e),
  λ h. (fills at words x).1 ((same x words).1 h),
)

pub Fills-bind : {A B : Type 0} (S : A → List (List ℕ) → Type 0) (R : A → B → List (List ℕ) → Type 0) (first : Place A) (next : A → Place B)
    → Takes S first → ((x : A) → Fills (R x) (next x))
    → Fills (λ y ws. (x : A) × (front : List (List ℕ)) × (back : List (List ℕ)) × (ws ≡ front ++ back) × S x front × R x y back)
    (first >>= next)
Fills-bind S R first next takes goes at words y = (
  λ e.
      let parts = bind_ok next at (first at words) (y, []) e in
      let one = (takes at words parts.0.1 parts.0.0).0 parts.1 in
      (parts.0.0, one.0, parts.0.1, one.1, one.2, (goes parts.0.0 at parts.0.1 y).0 parts.2),
  λ h.
      let one : first at words ≡ Ok (h.0, h.2) = (takes at words h.2 h.0).1 (h.1, h.3, h.4) in
      let two : next h.0 at h.2 ≡ Ok (y, []) = (goes h.0 at h.2 y).1 h.5 in
      rw one two,
)

ended-ok : {A : Type 0} (x y : A) (at : ℕ) (words rest : List (List ℕ)) → (ended >>= λ e. give x) at words ≡ Ok (y, rest)
    → (x ≡ y) × (words ≡ []) × (rest ≡ [])
ended-ok x y at [] rest e = let same = same_given (x, []) (y, rest) e in (same.0, refl, sym same.1)
ended-ok x y at (w ∷ ws) rest e = absurd (cc (e))

-- a place that uses the words up
pub whole-ok : {A : Type 0} (place : Place A) (at : ℕ) (words rest : List (List ℕ)) (x : A)
    → (whole place at words ≡ Ok (x, rest)) ↔ ((place at words ≡ Ok (x, [])) × (rest ≡ []))
whole-ok {A = A} place at words rest x = (
  λ e.
      let parts = bind_ok (λ y. ended >>= λ e. give y) at (place at words) (x, rest) e in
      let end = ended-ok parts.0.0 x at parts.0.1 rest parts.2 in
      let same : (parts.0.0, parts.0.1) ≡ (x, []) = cc (end.0, end.1) in
      (parts.1 ∙ ap (λ (q : A × List (List ℕ)). Ok q) same, end.2),
  λ h. let one : place at words ≡ Ok (x, []) = h.0 in rw (one, h.1) refl,
)

words-ok : {A : Type 0} (read : Result (A × List (List ℕ)) TextRefusal) (last : ℕ) (more rest : List Line) (x : A)
    → (of_words read last more ≡ Ok (x, rest)) → (ws : List (List ℕ)) × (read ≡ Ok (x, ws)) × (more ≡ rest)
words-ok {A = A} (Ok y) last more rest x e =
    let same = same_given (y.0, more) (x, rest) e in (y.1, ap (λ (v : A). Ok (v, y.1)) same.0, same.1)
words-ok (Err d) last more rest x e = absurd (cc (e))

line-none : {A : Type 0} (place : Place A) (last : ℕ) (rest : List Line) (x : A) → line place last [] ≡ Ok (x, rest) → ⊥
unfolding line due
line-none place last rest x e = absurd (cc (e))

line-first : {A : Type 0} (place : Place A) (n : ℕ) (o : Option (List (List ℕ))) (last : ℕ) (more rest : List Line) (x : A)
    → line place last (record { number = n; words = o } ∷ more) ≡ Ok (x, rest)
    → (ws : List (List ℕ)) × (o ≡ Some ws) × (more ≡ rest) × (place n ws ≡ Ok (x, []))
unfolding line due
line-first place n None last more rest x e = absurd (cc (e))
line-first place n (Some ws) last more rest x e =
    let h = words-ok (whole place n ws) last more rest x e in
    (ws, refl, h.2, ((whole-ok place n ws h.0 x).0 h.1).0)

line-again : {A : Type 0} (place : Place A) (n : ℕ) (ws : List (List ℕ)) (last : ℕ) (rest : List Line) (x : A)
    → place n ws ≡ Ok (x, []) → line place last (record { number = n; words = Some ws } ∷ rest) ≡ Ok (x, rest)
unfolding line due
line-again place n ws last rest x h =
    let one : whole place n ws ≡ Ok (x, []) = (whole-ok place n ws [] x).1 (h, refl) in
    rw one refl

abbrev any_line : ℕ → Option (List (List ℕ)) → Line
any_line n words = record { number = n; words = words }

abbrev line_of_words : ℕ → List (List ℕ) → Line
line_of_words n words = any_line n (Some words)

-- a line gives what its place gives of all its words
pub line-ok : {A : Type 0} (place : Place A) (last : ℕ) (text rest : List Line) (x : A)
    → (line place last text ≡ Ok (x, rest))
    ↔ ((n : ℕ) × (words : List (List ℕ)) × (text ≡ record { number = n; words = Some words } ∷ rest) × (place n words ≡ Ok (x, [])))
line-ok place last [] rest x = (λ e. absurd (line-none place last rest x e), λ h. absurd (cc (h.2)))
line-ok place last (l ∷ more) rest x = (
  λ e.
      let h = line-first place l.number l.words last more rest x e in (
        l.number,
        h.0,
        ap (λ (o : Option (List (List ℕ))). any_line l.number o ∷ more) h.1
            ∙ ap (λ (t : List Line). line_of_words l.number h.0 ∷ t) h.2,
        h.3,
      ),
  λ h. rw h.2 (line-again place h.0 h.1 last rest x h.3),
)

-- a line gives what its words spell
pub Takes-line : {A : Type 0} (S : A → List (List ℕ) → Type 0) (place : Place A) → Fills S place → Takes (IsOneLine S) (line place)
Takes-line S place fills last text rest x = (
  λ e.
      let h = (line-ok place last text rest x).0 e in
      (line_of_words h.0 h.1 ∷ [], h.2, (h.0, h.1, refl, (fills h.0 h.1 x).0 h.3)),
  λ h. (line-ok place last text rest x).1 (h.2.0, h.2.1, h.1 ∙ ap (λ (t : List Line). t ++ rest) h.2.2, (fills h.2.0 h.2.1 x).1 h.2.3),
)

named : (name : List ℕ) (n : ℕ) (ws : List (List ℕ))
    → ((y : Unit {0}) × (front : List (List ℕ)) × (back : List (List ℕ)) × (ws ≡ front ++ back) × (front ≡ name ∷ []) × IsOneNumeral n back)
    ↔ IsNameAndNumeral name n ws
named name n ws = (
  λ h. (h.5.0, h.3 ∙ ap (λ (t : List (List ℕ)). t ++ h.2) h.4 ∙ ap (λ (t : List (List ℕ)). name ∷ t) h.5.1, h.5.2),
  λ h. (tt, name ∷ [], h.0 ∷ [], h.1, refl, (h.0, refl, h.2)),
)

pub Takes-alone : (name : List ℕ) → Takes {A = Unit {0}} (IsOneLine (λ _ ws. ws ≡ name ∷ [])) (line (fixed name))
Takes-alone name = Takes-line _ (fixed name) (Fills-from_Takes (λ _ ws. ws ≡ name ∷ []) (fixed name) (Takes-fixed name))

pub Takes-counted : (name : List ℕ) → Takes (IsOneLine (IsNameAndNumeral name)) (line (counted name))
unfolding counted
Takes-counted name =
    Takes-line _ (counted name) (Fills-from_Takes _ (counted name)
    (Takes-same (λ n ws. (y : Unit {0}) × (front : List (List ℕ)) × (back : List (List ℕ)) × (ws ≡ front ++ back) × (front ≡ name ∷ [])
    × IsOneNumeral n back) _ (counted name) (named name)
    (Takes-bind (λ y ws. ws ≡ name ∷ []) (λ y n ws. IsOneNumeral n ws) (fixed name) (λ y. number) (Takes-fixed name) (λ y. Takes-number))))

pub Takes-version_line : (name : List ℕ) → Takes {A = Unit {0}} (IsOneLine (λ _ ws. IsNameAndNumeral name 1 ws)) (line (version name))
unfolding version
Takes-version_line name =
    Takes-line _ (version name) (Fills-from_Takes _ (version name)
    (Takes-same (λ _ ws. (y : Unit {0}) × (front : List (List ℕ)) × (back : List (List ℕ)) × (ws ≡ front ++ back) × (front ≡ name ∷ [])
    × IsOneNumeral 1 back) _ (version name) (λ _. named name 1)
    (Takes-bind (λ y ws. ws ≡ name ∷ []) (λ y _ ws. IsOneNumeral 1 ws) (fixed name) (λ y. version_number) (Takes-fixed name)
    (λ y. Takes-version))))

within : (name : List ℕ) (most n : ℕ) (ws : List (List ℕ))
    → ((y : Unit {0}) × (front : List (List ℕ)) × (back : List (List ℕ)) × (ws ≡ front ++ back) × (front ≡ name ∷ [])
    × (IsOneNumeral n back × (n ≤ most))) ↔ (IsNameAndNumeral name n ws × (n ≤ most))
within name most n ws = (
  λ h. ((named name n ws).0 (h.0, h.1, h.2, h.3, h.4, h.5.0), h.5.1),
  λ h. let parts = (named name n ws).1 h.0 in (parts.0, parts.1, parts.2, parts.3, parts.4, (parts.5, h.1)),
)

pub Takes-counted_within : (name : List ℕ) (what : Counted) (most : ℕ)
    → Takes (IsOneLine (λ n ws. IsNameAndNumeral name n ws × (n ≤ most))) (line (counted_within name what most))
unfolding counted_within
Takes-counted_within name what most =
    Takes-line _ (counted_within name what most) (Fills-from_Takes _ (counted_within name what most)
    (Takes-same (λ n ws. (y : Unit {0}) × (front : List (List ℕ)) × (back : List (List ℕ)) × (ws ≡ front ++ back) × (front ≡ name ∷ [])
    × (IsOneNumeral n back × (n ≤ most))) _ (counted_within name what most) (within name most)
    (Takes-bind (λ y ws. ws ≡ name ∷ []) (λ y n ws. IsOneNumeral n ws × (n ≤ most)) (fixed name) (λ y. limited what most) (Takes-fixed name)
    (λ y. Takes-limited what most))))

-- the end of a text gives its value exactly where no line is left
pub finished-ok : (last : ℕ) (text rest : List Line) (x : Unit {0}) → (finished last text ≡ Ok (x, rest)) ↔ ((text ≡ []) × (rest ≡ []))
unfolding finished
finished-ok last [] rest x = (λ e. let same = same_given (tt, []) (x, rest) e in (refl, sym same.1), λ h. rw h.1 refl)
finished-ok last (l ∷ more) rest x = (λ e. absurd (cc (e)), λ h. absurd (cc (h.0)))

end-ok : {A : Type 0} (x y : A) (last : ℕ) (text rest : List Line) → (finished >>= λ e. give x) last text ≡ Ok (y, rest)
    → (x ≡ y) × (text ≡ []) × (rest ≡ [])
unfolding finished
end-ok x y last [] rest e = let same = same_given (x, []) (y, rest) e in (same.0, refl, sym same.1)
end-ok x y last (l ∷ more) rest e = absurd (cc (e))

-- a form that uses the text up
pub whole_text-ok : {A : Type 0} (form : Form A) (last : ℕ) (text rest : List Line) (x : A)
    → (whole_text form last text ≡ Ok (x, rest)) ↔ ((form last text ≡ Ok (x, [])) × (rest ≡ []))
unfolding finished
whole_text-ok {A = A} form last text rest x = (
  λ e.
      let parts = bind_ok (λ y. finished >>= λ e. give y) last (form last text) (x, rest) e in
      let end = end-ok parts.0.0 x last parts.0.1 rest parts.2 in
      let same : (parts.0.0, parts.0.1) ≡ (x, []) = cc (end.0, end.1) in
      (parts.1 ∙ ap (λ (q : A × List Line). Ok q) same, end.2),
  λ h. let one : form last text ≡ Ok (x, []) = h.0 in rw (one, h.1) refl,
)

-- a whole text gives what its lines spell
pub whole_text-takes : {A : Type 0} (S : A → List Line → Type 0) (form : Form A) → Takes S form → (bytes : List ℕ) (x : A)
    → (of_text (whole_text form) bytes ≡ Ok (x, [])) ↔ S x (lines_from 1 bytes)
whole_text-takes S form takes bytes x = (
  λ e.
      let all = (whole_text-ok form (length (lines bytes)) (lines_from 1 bytes) [] x).0 e in
      let h = (takes (length (lines bytes)) (lines_from 1 bytes) [] x).0 all.0 in
      subst (λ (t : List Line). S x t) (sym (h.1 ∙ append-nil h.0)) h.2,
  λ h. (whole_text-ok form (length (lines bytes)) (lines_from 1 bytes) [] x).1
      ((takes (length (lines bytes)) (lines_from 1 bytes) [] x).1 (lines_from 1 bytes, sym (append-nil (lines_from 1 bytes)), h), refl),
)

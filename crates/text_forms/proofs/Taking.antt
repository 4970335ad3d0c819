-- Which values readers give: laws of what readers are made of.
use Rattle.std.proofs.Common.{◌≡◌, ℕ, ◌↔◌, List, [], ◌++◌, Bool, true, false, cond, Result, Ok, Err, refl, sym, ap, ◌∙◌, subst, inl, inr}
use Rattle.std.proofs.Common.{append_assoc}
use Rattle.std.specs.Prelude.{◌⊎◌}
use Rattle.std.specs.Bool.{MatchBool}
use Rattle.std.proofs.lemmas.List.{append-nil}
use Rattle.line_lexer.specs.declared.fault.TextFault.{TextFault}
use Rattle.line_lexer.specs.declared.refusal.Counted.{Counted}
use Rattle.line_lexer.specs.declared.refusal.TextRefusal.{TextRefusal}
use Rattle.text_forms.specs.Reading.{Reads, ◌>>=◌, go_on, give, fault, above}
use Rattle.text_forms.specs.Spelling.{Takes}

-- what went on gave, both parts gave
pub bind_ok : {T A B : Type 0} (next : A → Reads T B) (at : ℕ) (read : Result (A × List T) TextRefusal) (y : B × List T)
    → go_on next at read ≡ Ok y
    → (x : A × List T) × (read ≡ Ok x) × (next x.0 at x.1 ≡ Ok y)
bind_ok next at (Ok x) y e = (x, refl, e)
bind_ok next at (Err d) y e = absurd cc

-- a refusal of what went on is the first part's, or the second's at what the first left
pub bind_err : {T A B : Type 0} (next : A → Reads T B) (at : ℕ) (read : Result (A × List T) TextRefusal) (e : TextRefusal)
    → go_on next at read ≡ Err e
    → (read ≡ Err e) ⊎ ((x : A × List T) × (read ≡ Ok x) × (next x.0 at x.1 ≡ Err e))
bind_err next at (Ok x) e h = inr (x, refl, h)
bind_err next at (Err d) e h = inl (cc (h))

-- both parts give, one after the other
pub chain-ok : {T A B : Type 0} (first : Reads T A) (next : A → Reads T B) (at : ℕ) (left rest : List T) (y : B)
    → ((first >>= next) at left ≡ Ok (y, rest))
    ↔ ((x : A) × (middle : List T) × (first at left ≡ Ok (x, middle)) × (next x at middle ≡ Ok (y, rest)))
chain-ok first next at left rest y = (
  λ e. let parts = bind_ok next at (first at left) (y, rest) e in (parts.0.0, parts.0.1, parts.1, parts.2),
  λ h. let one : first at left ≡ Ok (h.0, h.1) = h.2 in rw one h.3,
)

-- the first part is refused, or it gives and the second is
pub chain-err : {T A B : Type 0} (first : Reads T A) (next : A → Reads T B) (at : ℕ) (left : List T) (e : TextRefusal)
    → ((first >>= next) at left ≡ Err e)
    ↔ ((first at left ≡ Err e) ⊎ ((x : A) × (middle : List T) × (first at left ≡ Ok (x, middle)) × (next x at middle ≡ Err e)))
chain-err first next at left e = (
  λ h. elim (bind_err next at (first at left) e h) [ inl one ↦ inl one | inr two ↦ inr (two.0.0, two.0.1, two.1, two.2) ],
  λ h. elim h [
    | inl one ↦ let refused : first at left ≡ Err e = one in rw refused refl
    | inr two ↦ let gives : first at left ≡ Ok (two.0, two.1) = two.2 in rw gives two.3
  ],
)

abbrev pub given : {T A : Type 0} → A × List T → Result (A × List T) TextRefusal
given x = Ok x

-- two answers are one only where both parts are
pub same_given : {T A : Type 0} (x y : A × List T) → given x ≡ given y → (x.0 ≡ y.0) × (x.1 ≡ y.1)
same_given {T = T} {A = A} x y e = let same : x ≡ y = cc (e) in (ap (λ (q : A × List T). q.0) same, ap (λ (q : A × List T). q.1) same)

pub Takes-give : {T A : Type 0} (x : A) → Takes {T = T} {A = A} (λ y front. (y ≡ x) × (front ≡ [])) (give x)
Takes-give {T = T} {A = A} x at left rest y = (
  λ e. let same = same_given (x, left) (y, rest) e in ([], same.1, (sym same.0, refl)),
  λ h. let nil : left ≡ rest = h.1 ∙ ap (λ (f : List T). f ++ rest) h.2.1 in cc (nil, h.2.0),
)

pub Takes-fault : {T A : Type 0} (kind : TextFault) → Takes {T = T} {A = A} (λ y front. ⊥) (fault kind)
Takes-fault kind at left rest y = (λ e. absurd (cc (e)), λ h. absurd h.2)

pub Takes-above : {T A : Type 0} (what : Counted) (found : ℕ) → Takes {T = T} {A = A} (λ y front. ⊥) (above what found)
Takes-above what found at left rest y = (λ e. absurd (cc (e)), λ h. absurd h.2)

pub Takes-bind : {T A B : Type 0} (S : A → List T → Type 0) (R : A → B → List T → Type 0) (first : Reads T A) (next : A → Reads T B)
    → Takes S first → ((x : A) → Takes (R x) (next x))
    → Takes (λ y whole. (x : A) × (front : List T) × (back : List T) × (whole ≡ front ++ back) × S x front × R x y back) (first >>= next)
Takes-bind {T = T} {A = A} {B = B} S R first next takes goes at left rest y = (
  λ e.
      let parts = bind_ok next at (first at left) (y, rest) e in
      let one = (takes at left parts.0.1 parts.0.0).0 parts.1 in
      let two = (goes parts.0.0 at parts.0.1 rest y).0 parts.2 in (
        one.0 ++ two.0,
        one.1 ∙ ap (λ (t : List T). one.0 ++ t) two.1
            ∙ sym (append_assoc one.0 two.0 rest),
        (parts.0.0, one.0, two.0, refl, one.2, two.2),
      ),
  λ h.
      let x = h.2.0 in
      let front = h.2.1 in
      let back = h.2.2 in
      let split : left ≡ front ++ (back ++ rest) = h.1 ∙ ap (λ (t : List T). t ++ rest) h.2.3 ∙ append_assoc front back rest in
      let one : first at left ≡ Ok (x, back ++ rest) = (takes at left (back ++ rest) x).1 (front, split, h.2.4) in
      let two : next x at (back ++ rest) ≡ Ok (y, rest) = (goes x at (back ++ rest) rest y).1 (back, refl, h.2.5) in
      rw one two,
)

pub Takes-same : {T A : Type 0} (S R : A → List T → Type 0) (reader : Reads T A) → ((x : A) (front : List T) → S x front ↔ R x front)
    → Takes S reader → Takes R reader
Takes-same S R reader same takes at left rest x = (
  λ e. let h = (takes at left rest x).0 e in (h.0, h.1, (same x h.0).0 h.2),
  λ h. (takes at left rest x).1 (h.0, h.1, (same x h.0).1 h.2),
)

-- the same in other words
pub Takes-as : {T A : Type 0} {S R : A → List T → Type 0} (reader : Reads T A) → Takes S reader
    → ((x : A) (front : List T) → S x front ↔ R x front) → Takes R reader
Takes-as {S = S} {R = R} reader takes same = Takes-same S R reader same takes

-- a value, and what is made of it
pub Takes-made : {T A B : Type 0} (S : A → List T → Type 0) (made : A → B) (first : Reads T A) → Takes S first
    → Takes (λ y front. (x : A) × S x front × (y ≡ made x)) (first >>= λ x. give (made x))
Takes-made {T = T} {A = A} {B = B} S made first takes =
    Takes-as (first >>= λ x. give (made x))
    (Takes-bind S (λ x y back. (y ≡ made x) × (back ≡ [])) first (λ x. give (made x)) takes (λ x. Takes-give (made x)))
    (λ y whole. (
      λ h.
          let all : whole ≡ h.1 = h.3 ∙ ap (λ (t : List T). h.1 ++ t) h.5.1 ∙ append-nil h.1 in
          (h.0, subst (λ (t : List T). S h.0 t) (sym all) h.4, h.5.0),
      λ h. (h.0, whole, [], sym (append-nil whole), h.1, (h.2, refl)),
    ))

pub Takes-if : {T A : Type 0} (S R : A → List T → Type 0) (b : Bool) (one other : Reads T A) → Takes S one → Takes R other
    → Takes (λ x front. MatchBool b (S x front) (R x front)) (cond b one other)
Takes-if S R true one other t o = t
Takes-if S R false one other t o = o

-- where the other way gives nothing, the test holds
pub Takes-only : {T A : Type 0} (S : A → List T → Type 0) (b : Bool) (one other : Reads T A) → Takes S one
    → Takes {T = T} {A = A} (λ x front. ⊥) other
    → Takes (λ x front. (b ≡ true) × S x front) (cond b one other)
Takes-only S true one other t o at left rest x = (
  λ e. let h = (t at left rest x).0 e in (h.0, h.1, (refl, h.2)),
  λ h. (t at left rest x).1 (h.0, h.1, h.2.1),
)
Takes-only S false one other t o at left rest x = (
  λ e. absurd ((o at left rest x).0 e).2,
  λ h. absurd (cc (h.2.0)),
)

-- a value that passes a test, and what is made of it
pub Takes-tested : {T A B : Type 0} (S : A → List T → Type 0) (P : A → Type 0) (test : A → Bool) (made : A → B) (first : Reads T A)
    (bad : A → Reads T B)
    → Takes S first → ((x : A) → Takes {T = T} {A = B} (λ y front. ⊥) (bad x)) → ((x : A) → (test x ≡ true) ↔ P x)
    → Takes (λ y front. (x : A) × S x front × P x × (y ≡ made x)) (first >>= λ x. cond (test x) (give (made x)) (bad x))
Takes-tested {T = T} {A = A} {B = B} S P test made first bad takes fails means =
    let R : A → B → List T → Type 0 = λ x y back. (test x ≡ true) × ((y ≡ made x) × (back ≡ [])) in
    Takes-same (λ y front'. (x : A) × (front : List T) × (back : List T) × (front' ≡ front ++ back) × S x front × R x y back) _
    (first >>= λ x. cond (test x) (give (made x)) (bad x))
    (λ y whole. (
      λ h.
          let all : whole ≡ h.1 = h.3 ∙ ap (λ (t : List T). h.1 ++ t) h.5.1.1 ∙ append-nil h.1 in
          (h.0, subst (λ (t : List T). S h.0 t) (sym all) h.4, (means h.0).0 h.5.0, h.5.1.0),
      λ h. (h.0, whole, [], sym (append-nil whole), h.1, ((means h.0).1 h.2, (h.3, refl))),
    ))
    (Takes-bind S R first (λ x. cond (test x) (give (made x)) (bad x)) takes
    (λ x. Takes-only (λ y back. (y ≡ made x) × (back ≡ [])) (test x) (give (made x)) (bad x) (Takes-give (made x)) (fails x)))

-- a value that passes a test
pub Takes-where : {T A : Type 0} (S : A → List T → Type 0) (P : A → Type 0) (test : A → Bool) (first : Reads T A) (bad : A → Reads T A)
    → Takes S first → ((x : A) → Takes {T = T} {A = A} (λ y front. ⊥) (bad x)) → ((x : A) → (test x ≡ true) ↔ P x)
    → Takes (λ x front. S x front × P x) (first >>= λ x. cond (test x) (give x) (bad x))
Takes-where {T = T} {A = A} S P test first bad takes fails means =
    Takes-same (λ y front. (x : A) × S x front × P x × (y ≡ x)) _ (first >>= λ x. cond (test x) (give x) (bad x))
    (λ y front. (
      λ h. (subst (λ (x : A). S x front) (sym h.3) h.1, subst (λ (x : A). P x) (sym h.3) h.2),
      λ h. (y, h.0, h.1, refl),
    ))
    (Takes-tested S P test (λ x. x) first bad takes fails means)

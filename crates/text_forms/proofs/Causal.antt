-- What forms give depends on the lines that they take alone: laws of what forms are made of.
use Rattle.std.proofs.Common.{◌≡◌, ℕ, zero, suc, ◌+◌, List, [], ◌∷◌, ◌++◌, None, Some, Option, Result, Ok, Err, refl, sym, ap, ◌∙◌, subst}
use Rattle.std.proofs.Common.{inl, inr, append_assoc}
use Rattle.line_lexer.specs.Lines.{Line}
use Rattle.line_lexer.specs.declared.fault.TextFault.TheVariants.{Byte, Count, Missing}
use Rattle.line_lexer.specs.declared.refusal.TextRefusal.{TextRefusal}
use Rattle.line_lexer.specs.declared.refusal.TextRefusal.TheVariants.{Bad}
use Rattle.text_forms.specs.Reading.{◌>>=◌, give}
use Rattle.text_forms.specs.Places.{Place, ended, times}
use Rattle.text_forms.specs.Forms.{Form, due, whole, of_words, line, extra, finished, whole_text}
use Rattle.text_forms.specs.Causality.{FaultsOnLine, IsOnLine, GivesCausally, RefusesCausally}
use Rattle.text_forms.proofs.Taking.{bind_ok, bind_err, same_given}

pub GivesCausally-give : {A : Type 0} (x : A) → GivesCausally {A = A} (give x)
GivesCausally-give {A = A} x last text rest y e =
    let same = same_given (x, text) (y, rest) e in ([], same.1, λ last' rest'. ap (λ (v : A). Ok (v, rest')) same.0)

pub RefusesCausally-give : {A : Type 0} (x : A) → RefusesCausally {A = A} (give x)
RefusesCausally-give x last text e h = absurd (cc (h))

pub GivesCausally-bind : {A B : Type 0} (first : Form A) (next : A → Form B) → GivesCausally first → ((x : A) → GivesCausally (next x))
    → GivesCausally (first >>= next)
GivesCausally-bind {A = A} {B = B} first next one two last text rest y e =
    let parts = bind_ok next last (first last text) (y, rest) e in
    let a = one last text parts.0.1 parts.0.0 parts.1 in
    let b = two parts.0.0 last parts.0.1 rest y parts.2 in (
      a.0 ++ b.0,
      a.1 ∙ ap (λ (t : List Line). a.0 ++ t) b.1 ∙ sym (append_assoc a.0 b.0 rest),
      λ last' rest'.
          let given : first last' (a.0 ++ (b.0 ++ rest')) ≡ Ok (parts.0.0, b.0 ++ rest') = a.2 last' (b.0 ++ rest') in
          let gives : next parts.0.0 last' (b.0 ++ rest') ≡ Ok (y, rest') = b.2 last' rest' in
          rw (append_assoc a.0 b.0 rest', given) gives,
    )

pub RefusesCausally-bind : {A B : Type 0} (first : Form A) (next : A → Form B) → GivesCausally first → RefusesCausally first
    → ((x : A) → RefusesCausally (next x)) → RefusesCausally (first >>= next)
RefusesCausally-bind {A = A} {B = B} first next gives refuses two last text e h =
    elim (bind_err next last (first last text) e h) [
      | inl at_first ↦ elim (refuses last text e at_first) [
        | inl missing ↦ inl missing
        | inr r ↦ inr (record {
          before = r.before;
          at = r.at;
          rest = r.rest;
          text_is = r.text_is;
          on_line = r.on_line;
          refuses = λ last' rest'. let one : first last' ((r.before ++ r.at ∷ []) ++ rest') ≡ Err e = r.refuses last' rest' in rw one refl;
        })
      ]
      | inr at_next ↦
          let a = gives last text at_next.0.1 at_next.0.0 at_next.1 in
          elim (two at_next.0.0 last at_next.0.1 e at_next.2) [
            | inl missing ↦ inl missing
            | inr r ↦ inr (record {
              before = a.0 ++ r.before;
              at = r.at;
              rest = r.rest;
              text_is = a.1 ∙ ap (λ (t : List Line). a.0 ++ t) r.text_is ∙ sym (append_assoc a.0 r.before (r.at ∷ r.rest));
              on_line = r.on_line;
              refuses = λ last' rest'.
                  let regrouped : ((a.0 ++ r.before) ++ r.at ∷ []) ++ rest' ≡ a.0
                  ++ ((r.before ++ r.at ∷ []) ++ rest') =
                  ap (λ (t : List Line). t ++ rest') (append_assoc a.0 r.before (r.at ∷ []))
                  ∙ append_assoc a.0 (r.before ++ r.at ∷ []) rest' in
                  let given : first last' (a.0 ++ ((r.before ++ r.at ∷ []) ++ rest'))
                  ≡ Ok (at_next.0.0, (r.before ++ r.at ∷ []) ++ rest') = a.2 last' ((r.before ++ r.at ∷ []) ++ rest') in
                  let refused : next at_next.0.0 last' ((r.before ++ r.at ∷ []) ++ rest') ≡ Err e = r.refuses last' rest' in
                  rw (regrouped, given) refused;
            })
          ]
    ]

line-none : {A : Type 0} (place : Place A) (last : ℕ) (rest : List Line) (x : A) → line place last [] ≡ Ok (x, rest) → ⊥
unfolding line due
line-none place last rest x e = absurd (cc (e))

-- one line gives what it gives whatever follows
line-alone : {A : Type 0} (place : Place A) (n : ℕ) (o : Option (List (List ℕ))) (last : ℕ) (more : List Line) (rest : List Line) (x : A)
    → line place last (record { number = n; words = o } ∷ more) ≡ Ok (x, rest)
    → (more ≡ rest) × ((last' : ℕ) (rest' : List Line) → line place last' (record { number = n; words = o } ∷ rest') ≡ Ok (x, rest'))
unfolding line due
line-alone place n None last more rest x e = absurd (cc (e))
line-alone {A = A} place n (Some ws) last more rest x e = of-ok (whole place n ws) e
  where
    of-ok : (read : Result (A × List (List ℕ)) TextRefusal) → of_words read last more ≡ Ok (x, rest)
        → (more ≡ rest) × ((last' : ℕ) (rest' : List Line) → of_words read last' rest' ≡ Ok (x, rest'))
    of-ok (Ok y) h = let same = same_given (y.0, more) (x, rest) h in (same.1, λ last' rest'. ap (λ (v : A). Ok (v, rest')) same.0)
    of-ok (Err d) h = absurd (cc (h))

pub GivesCausally-line : {A : Type 0} (place : Place A) → GivesCausally (line place)
GivesCausally-line place last [] rest x e = absurd (line-none place last rest x e)
GivesCausally-line place last (l ∷ more) rest x e =
    let h = line-alone place l.number l.words last more rest x e in
    (l ∷ [], ap (λ (t : List Line). l ∷ t) h.0, λ last' rest'. h.1 last' rest')

line-missing : {A : Type 0} (place : Place A) (last : ℕ) (e : TextRefusal) → line place last [] ≡ Err e → e ≡ Bad (last + 1) Missing
unfolding line due
line-missing place last e h = cc (h)

ended-fault : {A : Type 0} (x : A) (at : ℕ) (words : List (List ℕ)) (e : TextRefusal) → (ended >>= λ y. give x) at words ≡ Err e
    → IsOnLine e at
ended-fault x at [] e h = absurd (cc (h))
ended-fault x at (w ∷ ws) e h = let same : Bad at Count ≡ e = cc (h) in subst (λ (d : TextRefusal). IsOnLine d at) same refl

whole-fault : {A : Type 0} (place : Place A) → FaultsOnLine place → FaultsOnLine (whole place)
whole-fault place faults at words e h =
    elim (bind_err (λ x. ended >>= λ y. give x) at (place at words) e h) [
      | inl at_place ↦ faults at words e at_place
      | inr at_end ↦ ended-fault at_end.0.0 at at_end.0.1 e at_end.2
    ]

line-refused : {A : Type 0} (place : Place A) → FaultsOnLine place
    → (n : ℕ) (o : Option (List (List ℕ))) (last : ℕ) (more : List Line) (e : TextRefusal)
    → line place last (record { number = n; words = o } ∷ more) ≡ Err e
    → IsOnLine e n × ((last' : ℕ) (rest' : List Line) → line place last' (record { number = n; words = o } ∷ rest') ≡ Err e)
unfolding line due
line-refused place faults n None last more e h =
    let same : Bad n Byte ≡ e = cc (h) in (subst (λ (d : TextRefusal). IsOnLine d n) same refl, λ last' rest'. ap Err same)
line-refused {A = A} place faults n (Some ws) last more e h = of-err (whole place n ws) (whole-fault place faults n ws e) h
  where
    of-err : (read : Result (A × List (List ℕ)) TextRefusal) → (read ≡ Err e → IsOnLine e n) → of_words read last more ≡ Err e
        → IsOnLine e n × ((last' : ℕ) (rest' : List Line) → of_words read last' rest' ≡ Err e)
    of-err (Ok y) f h' = absurd (cc (h'))
    of-err (Err d) f h' = let same : d ≡ e = cc (h') in (f (ap Err same), λ last' rest'. ap Err same)

pub RefusesCausally-line : {A : Type 0} (place : Place A) → FaultsOnLine place → RefusesCausally (line place)
RefusesCausally-line place faults last [] e h = inl (line-missing place last e h)
RefusesCausally-line place faults last (l ∷ more) e h =
    let r = line-refused place faults l.number l.words last more e h in
    inr (record { before = []; at = l; rest = more; text_is = refl; on_line = r.0; refuses = λ last' rest'. r.1 last' rest' })

pub RefusesCausally-finished : RefusesCausally finished
unfolding finished
RefusesCausally-finished last [] e h = absurd (cc (h))
RefusesCausally-finished last (l ∷ more) e h =
    let same : Bad l.number (extra l.words) ≡ e = cc (h) in
    inr (record {
      before = [];
      at = l;
      rest = more;
      text_is = refl;
      on_line =
          subst (λ (d : TextRefusal). IsOnLine d l.number) same refl;
      refuses = λ last' rest'. ap Err same;
    })

pub GivesCausally-times : {A : Type 0} (n : ℕ) (form : Form A) → GivesCausally form → GivesCausally (times n form)
unfolding times
GivesCausally-times zero form gives = GivesCausally-give []
GivesCausally-times (suc n) form gives =
    GivesCausally-bind form _ gives
    (λ x. GivesCausally-bind (times n form) _ (GivesCausally-times n form gives) (λ xs. GivesCausally-give (x ∷ xs)))

pub RefusesCausally-times : {A : Type 0} (n : ℕ) (form : Form A) → GivesCausally form → RefusesCausally form
    → RefusesCausally (times n form)
unfolding times
RefusesCausally-times zero form gives refuses = RefusesCausally-give []
RefusesCausally-times (suc n) form gives refuses =
    RefusesCausally-bind form _ gives refuses
    (λ x. RefusesCausally-bind (times n form) _ (GivesCausally-times n form gives) (RefusesCausally-times n form gives refuses)
    (λ xs. RefusesCausally-give (x ∷ xs)))

end_refused : {A : Type 0} (x : A) → RefusesCausally (finished >>= λ _. give x)
unfolding finished
end_refused x last [] e h = absurd (cc (h))
end_refused x last (l ∷ more) e h =
    let same : Bad l.number (extra l.words) ≡ e = cc (h) in
    inr (record {
      before = [];
      at = l;
      rest = more;
      text_is = refl;
      on_line =
          subst (λ (d : TextRefusal). IsOnLine d l.number) same refl;
      refuses = λ last' rest'. ap Err same;
    })

-- a form up to the end of the text
pub RefusesCausally-whole_text : {A : Type 0} (form : Form A) → GivesCausally form → RefusesCausally form
    → RefusesCausally (whole_text form)
RefusesCausally-whole_text form gives refuses = RefusesCausally-bind form _ gives refuses end_refused

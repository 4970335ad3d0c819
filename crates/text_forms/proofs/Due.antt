-- Which fault comes of a line that is due, and of the end of a text.
use Rattle.std.proofs.Common.{◌≡◌, ℕ, ◌+◌, ◌↔◌, List, [], ◌∷◌, None, Some, Option, Err, refl, ap}
use Rattle.line_lexer.specs.Lines.{Line}
use Rattle.line_lexer.specs.declared.refusal.TextRefusal.TheVariants.{Bad}
use Rattle.line_lexer.specs.declared.fault.TextFault.TheVariants.{Byte, Missing, Extra}
use Rattle.text_forms.specs.Forms.{words_of, due, extra, finished}

abbrev numbered_line : ℕ → Option (List (List ℕ)) → Line
numbered_line n words = record { number = n; words = words }

-- a line that begins the text, by its parts
first-is : (n : ℕ) (o : Option (List (List ℕ))) (l : Line) (text more : List Line) → l ∷ text ≡ numbered_line n o ∷ more
    → (l.number ≡ n) × (l.words ≡ o)
first-is n o l text more e =
    let same : l ≡ numbered_line n o = cc (e) in (ap (λ (k : Line). k.number) same, ap (λ (k : Line). k.words) same)

made : (n : ℕ) (o : Option (List (List ℕ))) (l : Line) → l.number ≡ n → l.words ≡ o → l ≡ numbered_line n o
made n o l a b = let same : numbered_line l.number l.words ≡ numbered_line n o = cc (a, b) in same

pub due-missing : (last n : ℕ) (text : List Line) → (due last text ≡ Err (Bad n Missing)) ↔ ((text ≡ []) × (n ≡ last + 1))
unfolding due
due-missing last n [] = (λ e. (refl, cc (e)), λ h. rw h.1 refl)
due-missing last n (l ∷ more) = (λ e. absurd (at l.number l.words e), λ h. absurd (cc (h.0)))
  where
    at : (k : ℕ) (o : Option (List (List ℕ))) → words_of k o more ≡ Err (Bad n Missing) → ⊥
    at k None e = absurd (cc (e))
    at k (Some ws) e = absurd (cc (e))

pub due-byte : (last n : ℕ) (text : List Line)
    → (due last text ≡ Err (Bad n Byte)) ↔ ((more : List Line) × (text ≡ record { number = n; words = None } ∷ more))
unfolding due
due-byte last n [] = (λ e. absurd (cc (e)), λ h. absurd (cc (h.1)))
due-byte last n (l ∷ more) = (
  λ e. let parts = at l.number l.words e in (more, ap (λ (k : Line). k ∷ more) (made n None l parts.0 parts.1)),
  λ h. let parts = first-is n None l more h.0 h.1 in rw (parts.0, parts.1) refl,
)
  where
    at : (k : ℕ) (o : Option (List (List ℕ))) → words_of k o more ≡ Err (Bad n Byte) → (k ≡ n) × (o ≡ None)
    at k None e = (cc (e), refl)
    at k (Some ws) e = absurd (cc (e))

pub finished-extra : (last n : ℕ) (text : List Line)
    → (finished last text ≡ Err (Bad n Extra))
    ↔ ((words : List (List ℕ)) × (more : List Line) × (text ≡ record { number = n; words = Some words } ∷ more))
unfolding finished
finished-extra last n [] = (λ e. absurd (cc (e)), λ h. absurd (cc (h.2)))
finished-extra last n (l ∷ more) = (
  λ e. let same : Bad l.number (extra l.words) ≡ Bad n Extra = cc (e) in
      let parts = at l.number l.words same in (parts.0, more, ap (λ (k : Line). k ∷ more) (made n (Some parts.0) l parts.1 parts.2)),
  λ h. let parts = first-is n (Some h.0) l more h.1 h.2 in rw (parts.0, parts.1) refl,
)
  where
    at : (k : ℕ) (o : Option (List (List ℕ))) → Bad k (extra o) ≡ Bad n Extra → (ws : List (List ℕ)) × (k ≡ n) × (o ≡ Some ws)
    at k None e = absurd (cc (e))
    at k (Some ws) e = (ws, cc (e), refl)

pub finished-byte : (last n : ℕ) (text : List Line)
    → (finished last text ≡ Err (Bad n Byte)) ↔ ((more : List Line) × (text ≡ record { number = n; words = None } ∷ more))
unfolding finished
finished-byte last n [] = (λ e. absurd (cc (e)), λ h. absurd (cc (h.1)))
finished-byte last n (l ∷ more) = (
  λ e. let same : Bad l.number (extra l.words) ≡ Bad n Byte = cc (e) in
      let parts = at l.number l.words same in (more, ap (λ (k : Line). k ∷ more) (made n None l parts.0 parts.1)),
  λ h. let parts = first-is n None l more h.0 h.1 in rw (parts.0, parts.1) refl,
)
  where
    at : (k : ℕ) (o : Option (List (List ℕ))) → Bad k (extra o) ≡ Bad n Byte → (k ≡ n) × (o ≡ None)
    at k None e = (cc (e), refl)
    at k (Some ws) e = absurd (cc (e))

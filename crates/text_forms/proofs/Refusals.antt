-- What each refusal of a place or of a line says of the words.
use Rattle.std.proofs.Common.{◌≡◌, ◌≢◌, ℕ, ◌<◌, ◌≤◌, ◌↔◌, List, [], ◌∷◌, ◌++◌, Bool, true, false, cond, None, Some, Option, Result, Ok}
use Rattle.std.proofs.Common.{Err, refl, sym, ap, ◌∙◌, subst, arith, inl, inr, ltb, leb, eqb}
use Rattle.std.specs.Prelude.{◌⊎◌, ◌&&◌}
use Rattle.std.specs.Str.{bytes_eq}
use Rattle.std.proofs.lemmas.Bool.{eqb-true, eq-eqb, leb-true, le-leb, ltb-true, lt-ltb, cases_lt, and_parts, and_from}
use Rattle.std.proofs.lemmas.Slice.Eq.{bytes_eq-Decides}
use Rattle.line_lexer.specs.Lines.{Line}
use Rattle.line_lexer.specs.Numbers.{number_of}
use Rattle.line_lexer.specs.declared.fault.TextFault.TheVariants.{Word, Version, Number, Range, Order, Count}
use Rattle.line_lexer.specs.declared.refusal.Counted.{Counted}
use Rattle.line_lexer.specs.declared.refusal.TextRefusal.{TextRefusal}
use Rattle.line_lexer.specs.declared.refusal.TextRefusal.TheVariants.{Bad, Limit}
use Rattle.text_forms.specs.Reading.{Reads, ◌>>=◌, go_on, give, fault, above}
use Rattle.text_forms.specs.Places.{Place, ended, fixed, spelled_number, number, version_number, limited, entry, as_position, position}
use Rattle.text_forms.specs.Forms.{due, words_of, whole, of_words, line, counted_within}
use Rattle.text_forms.specs.Spelling.{IsNumeralOf, StartsWithNumeral}
use Rattle.text_forms.proofs.Numerals.{number_of-numeral}
use Rattle.text_forms.proofs.PlacesTake.{Takes-fixed}
use Rattle.text_forms.proofs.Taking.{bind_err}

-- a test that fails gives the refusal
tested : {A T : Type 0} (P : Type 0) (b : Bool) (x : A) (other : Reads T A) (e : TextRefusal) (at : ℕ) (left : List T) → ((b ≡ false) ↔ P)
    → other at left ≡ Err e
    → (cond b (give x) other at left ≡ Err e) ↔ P
tested P true x other e at left means fails = (λ h. absurd (cc (h)), λ p. absurd (cc (means.1 p)))
tested P false x other e at left means fails = (λ h. means.0 refl, λ p. fails)

false_of : (b : Bool) (P : Type 0) → ((b ≡ true) ↔ P) → (b ≡ false) ↔ (P → ⊥)
false_of true P m = (λ h. absurd (cc (h)), λ n. absurd (n (m.0 refl)))
false_of false P m = (λ h p. absurd (cc (m.1 p)), λ n. refl)

differs : (w text : List ℕ) → (bytes_eq w text ≡ false) ↔ (w ≢ text)
differs w text = false_of (bytes_eq w text) (w ≡ text) (bytes_eq-Decides w text)

pub fixed-count : (text : List ℕ) (at : ℕ) (words : List (List ℕ)) → (fixed text at words ≡ Err (Bad at Count)) ↔ (words ≡ [])
unfolding fixed
fixed-count text at [] = (λ h. refl, λ h. refl)
fixed-count text at (w ∷ ws) = (λ h. absurd (never (bytes_eq w text) h), λ h. absurd (cc (h)))
  where
    never : (b : Bool) → cond b (give {A = Unit {0}} tt) (fault Word) at ws ≡ Err (Bad at Count) → ⊥
    never true h = absurd (cc (h))
    never false h = absurd (cc (h))

pub fixed-word : (text : List ℕ) (at : ℕ) (words : List (List ℕ))
    → (fixed text at words ≡ Err (Bad at Word)) ↔ ((w : List ℕ) × (ws : List (List ℕ)) × (words ≡ w ∷ ws) × (w ≢ text))
unfolding fixed
fixed-word text at [] = (λ h. absurd (cc (h)), λ h. absurd (cc (h.2)))
fixed-word text at (w ∷ ws) =
    let means = tested (w ≢ text) (bytes_eq w text) tt (fault Word) (Bad at Word) at ws (differs w text) refl in (
      λ h. (w, ws, refl, means.0 h),
      λ h. let same : h.0 ≡ w = cc (h.2) in means.1 (subst (λ (v : List ℕ). v ≢ text) same h.3),
    )

pub ended-count : (at : ℕ) (words : List (List ℕ)) → (ended at words ≡ Err (Bad at Count)) ↔ (words ≢ [])
ended-count at [] = (λ h. absurd (cc (h)), λ h. absurd (h refl))
ended-count at (w ∷ ws) = (λ h e. absurd (cc (e)), λ h. refl)

pub number-fault : (at : ℕ) (words : List (List ℕ))
    → (number at words ≡ Err (Bad at Number)) ↔ ((w : List ℕ) × (ws : List (List ℕ)) × (words ≡ w ∷ ws) × ((n : ℕ) → IsNumeralOf n w → ⊥))
unfolding number
number-fault at [] = (λ h. absurd (cc (h)), λ h. absurd (cc (h.2)))
number-fault at (w ∷ ws) = go (number_of w) refl
  where
    go : (o : Option ℕ) → number_of w ≡ o
        → (spelled_number o at ws ≡ Err (Bad at Number))
        ↔ ((v : List ℕ) × (vs : List (List ℕ)) × (w ∷ ws ≡ v ∷ vs) × ((n : ℕ) → IsNumeralOf n v → ⊥))
    go None e = (λ h. (w, ws, refl, λ n numeral. absurd (cc (e, (number_of-numeral n w).1 numeral))), λ h. refl)
    go (Some n) e = (
      λ h. absurd (cc (h)),
      λ h. let same : w ≡ h.0 = cc (h.2) in absurd (h.3 n (subst (λ (v : List ℕ). IsNumeralOf n v) same ((number_of-numeral n w).0 e))),
    )

-- what is refused of a number, as such
numbered : {A : Type 0} (P : ℕ → Type 0) (next : ℕ → Place A) (e : TextRefusal) (at : ℕ) (words : List (List ℕ)) → (Bad at Count ≡ e → ⊥)
    → (Bad at Number ≡ e → ⊥)
    → ((n : ℕ) (ws : List (List ℕ)) → (next n at ws ≡ Err e) ↔ P n)
    → ((number >>= next) at words ≡ Err e) ↔ ((n : ℕ) × StartsWithNumeral n words × P n)
unfolding number
numbered P next e at [] count none means = (λ h. absurd (count (cc (h))), λ h. absurd (cc (h.1.2)))
numbered P next e at (w ∷ ws) count none means = go (number_of w) refl
  where
    go : (o : Option ℕ) → number_of w ≡ o
        → (go_on next at (spelled_number o at ws) ≡ Err e) ↔ ((n : ℕ) × StartsWithNumeral n (w ∷ ws) × P n)
    go None eq = (
      λ h. absurd (none (cc (h))),
      λ h.
          let same : w ≡ h.1.0 = cc (h.1.2) in
          absurd (cc (eq, (number_of-numeral h.0 w).1 (subst (λ (v : List ℕ). IsNumeralOf h.0 v) (sym same) h.1.3))),
    )
    go (Some n) eq = (
      λ h. (n, (w, ws, refl, (number_of-numeral n w).0 eq), (means n ws).0 h),
      λ h.
          let same : w ≡ h.1.0 = cc (h.1.2) in
          let number_is : number_of w ≡ Some h.0 = (number_of-numeral h.0 w).1
          (subst (λ (v : List ℕ). IsNumeralOf h.0 v) (sym same) h.1.3) in
          let one : h.0 ≡ n = cc (eq, number_is) in
          (means n ws).1 (subst P one h.2),
    )

pub version-fault : (at : ℕ) (words : List (List ℕ))
    → (version_number at words ≡ Err (Bad at Version)) ↔ ((n : ℕ) × StartsWithNumeral n words × (n ≢ 1))
unfolding version_number
version-fault at words =
    numbered (λ n. n ≢ 1) (λ n. cond (eqb n 1) (give tt) (fault Version)) (Bad at Version) at words (λ h. absurd (cc (h)))
    (λ h. absurd (cc (h)))
    (λ n ws. tested (n ≢ 1) (eqb n 1) tt (fault Version) (Bad at Version) at ws
    (false_of (eqb n 1) (n ≡ 1) (eqb-true n 1, eq-eqb n 1)) refl)

not_below : (m n : ℕ) → (ltb m n ≡ false) ↔ (n ≤ m)
not_below m n =
    let means = false_of (ltb m n) (m < n) (ltb-true m n, lt-ltb m n) in
    (λ h. elim (cases_lt m n) [ inl lt ↦ absurd (means.0 h lt) | inr ge ↦ ge ], λ h. means.1 (λ lt. absurd (omega arith)))

pub entry-range : (order at : ℕ) (words : List (List ℕ))
    → (entry order at words ≡ Err (Bad at Range)) ↔ ((n : ℕ) × StartsWithNumeral n words × (order ≤ n))
unfolding entry
entry-range order at words =
    numbered (λ n. order ≤ n) (λ n. cond (ltb n order) (give n) (fault Range)) (Bad at Range) at words (λ h. absurd (cc (h)))
    (λ h. absurd (cc (h)))
    (λ n ws. tested (order ≤ n) (ltb n order) n (fault Range) (Bad at Range) at ws (not_below n order) refl)

above_limit : (n most : ℕ) → (leb n most ≡ false) ↔ (most < n)
above_limit n most =
    let means = false_of (leb n most) (n ≤ most) (leb-true n most, le-leb n most) in
    (λ h. elim (cases_lt most n) [ inl lt ↦ lt | inr ge ↦ absurd (means.0 h ge) ], λ h. means.1 (λ le. absurd (omega arith)))

-- the number that is found is that of the refusal
limit_test : (b : Bool) (what : Counted) (n m at : ℕ) (ws : List (List ℕ))
    → (cond b (give n) (above what n) at ws ≡ Err (Limit what m)) ↔ ((b ≡ false) × (n ≡ m))
limit_test true what n m at ws = (λ h. absurd (cc (h)), λ h. absurd (cc (h.0)))
limit_test false what n m at ws = (λ h. (refl, cc (h)), λ h. cc (h.1))

pub limited-limit : (what : Counted) (most m at : ℕ) (words : List (List ℕ))
    → (limited what most at words ≡ Err (Limit what m)) ↔ (StartsWithNumeral m words × (most < m))
unfolding limited
limited-limit what most m at words =
    let means = numbered (λ n. (leb n most ≡ false) × (n ≡ m)) (λ n. cond (leb n most) (give n) (above what n)) (Limit what m) at words
    (λ h. absurd (cc (h))) (λ h. absurd (cc (h)))
    (λ n ws. limit_test (leb n most) what n m at ws) in (
      λ h.
          let found = means.0 h in (
            subst (λ (n : ℕ). StartsWithNumeral n words) found.2.1 found.1,
            subst (λ (n : ℕ). most < n) found.2.1
                ((above_limit found.0 most).0 found.2.0),
          ),
      λ h. means.1 (m, h.0, ((above_limit m most).1 h.1, refl)),
    )

both : (n lines : ℕ) → ((leb 1 n && leb n lines) ≡ true) ↔ ((1 ≤ n) × (n ≤ lines))
both n lines = (
  λ h. let parts = and_parts (leb 1 n) (leb n lines) h in (leb-true 1 n parts.0, leb-true n lines parts.1),
  λ h. and_from (leb 1 n) (leb n lines) (le-leb 1 n h.0) (le-leb n lines h.1),
)

inside : (n lines : ℕ) → ((leb 1 n && leb n lines) ≡ false) ↔ ((n < 1) ⊎ (lines < n))
inside n lines = (
  λ h. elim (cases_lt n 1) [
    | inl lt ↦ inl lt
    | inr ge ↦ elim (cases_lt lines n) [
      | inl lt ↦ inr lt
      | inr le ↦ absurd
          (cc (h, and_from (leb 1 n) (leb n lines) (le-leb 1 n ge) (le-leb n lines le)))
    ]
  ],
  λ h. (false_of (leb 1 n && leb n lines) ((1 ≤ n) × (n ≤ lines)) (both n lines)).1
      (λ p. elim h [ inl lt ↦ absurd (omega (arith, p.0)) | inr lt ↦ absurd (omega (arith, p.1)) ]),
)

ordered : (b c : Bool) (n at : ℕ) (ws : List (List ℕ))
    → (cond b (cond c (give n) (fault Order)) (fault Range) at ws ≡ Err (Bad at Order)) ↔ ((b ≡ true) × (c ≡ false))
ordered true true n at ws = (λ h. absurd (cc (h)), λ h. absurd (cc (h.1)))
ordered true false n at ws = (λ h. (refl, refl), λ h. refl)
ordered false c n at ws = (λ h. absurd (cc (h)), λ h. absurd (cc (h.0)))

ranged : (b c : Bool) (n at : ℕ) (ws : List (List ℕ))
    → (cond b (cond c (give n) (fault Order)) (fault Range) at ws ≡ Err (Bad at Range)) ↔ (b ≡ false)
ranged true true n at ws = (λ h. absurd (cc (h)), λ h. absurd (cc (h)))
ranged true false n at ws = (λ h. absurd (cc (h)), λ h. absurd (cc (h)))
ranged false c n at ws = (λ h. refl, λ h. refl)

pub position-range : (lines before at : ℕ) (words : List (List ℕ))
    → (position lines before at words ≡ Err (Bad at Range)) ↔ ((n : ℕ) × StartsWithNumeral n words × ((n < 1) ⊎ (lines < n)))
unfolding position as_position
position-range lines before at words =
    numbered (λ n. (n < 1) ⊎ (lines < n)) (as_position lines before) (Bad at Range) at words (λ h. absurd (cc (h))) (λ h. absurd (cc (h)))
    (λ n ws.
    let test = ranged (leb 1 n && leb n lines) (ltb before n) n at ws in
    let means = inside n lines in
    (λ h. means.0 (test.0 h), λ h. test.1 (means.1 h)))

pub position-order : (lines before at : ℕ) (words : List (List ℕ))
    → (position lines before at words ≡ Err (Bad at Order)) ↔ ((n : ℕ) × StartsWithNumeral n words × ((1 ≤ n) × (n ≤ lines) × (n ≤ before)))
unfolding position as_position
position-order lines before at words =
    numbered (λ n. (1 ≤ n) × (n ≤ lines) × (n ≤ before)) (as_position lines before) (Bad at Order) at words (λ h. absurd (cc (h)))
    (λ h. absurd (cc (h)))
    (λ n ws.
    let test = ordered (leb 1 n && leb n lines) (ltb before n) n at ws in
    let means = both n lines in
    let low = not_below before n in (
      λ h.
          let found = test.0 h in
          let range = means.0 found.0 in (range.0, range.1, low.0 found.1),
      λ h. test.1 (means.1 (h.0, h.1), low.1 h.2),
    ))

-- a limit that a line's words pass is that of its place
ended_never : {A : Type 0} (x : A) (what : Counted) (m at last : ℕ) (ws : List (List ℕ)) (more : List Line)
    → of_words (go_on (λ _. give x) at (ended at ws)) last more ≡ Err (Limit what m) → ⊥
ended_never x what m at last [] more h = absurd (cc (h))
ended_never x what m at last (w ∷ ws) more h = absurd (cc (h))

whole_limit : {A : Type 0} (what : Counted) (m at last : ℕ) (r : Result (A × List (List ℕ)) TextRefusal) (more : List Line)
    → (of_words (go_on (λ x. ended >>= λ _. give x) at r) last more ≡ Err (Limit what m)) ↔ (r ≡ Err (Limit what m))
whole_limit what m at last (Ok x) more = (λ h. absurd (ended_never x.0 what m at last x.1 more h), λ h. absurd (cc (h)))
whole_limit what m at last (Err e) more = (λ h. ap Err (cc (h)), λ h. ap Err (cc (h)))

line-limit : {A : Type 0} (place : Place A) (what : Counted) (m last : ℕ) (text : List Line) → (line place last text ≡ Err (Limit what m))
    ↔ ((n : ℕ) × (words : List (List ℕ)) × (more : List Line) × (text ≡ record { number = n; words = Some words } ∷ more)
    × (place n words ≡ Err (Limit what m)))
unfolding line due
line-limit place what m last [] = (λ h. absurd (cc (h)), λ h. absurd (cc (h.3)))
line-limit place what m last (l ∷ more) = go l.words refl
  where
    go : (o : Option (List (List ℕ))) → l.words ≡ o
        → (go_on (λ x. of_words (whole place x.0 x.1)) last (words_of l.number o more) ≡ Err (Limit what m))
        ↔ ((n : ℕ) × (words : List (List ℕ)) × (others : List Line) × (l ∷ more ≡ record { number = n; words = Some words } ∷ others)
        × (place n words ≡ Err (Limit what m)))
    go None e = (
      λ h. absurd (cc (h)),
      λ h. let same : l ≡ record { number = h.0; words = Some h.1 } = cc (h.3) in absurd (cc (sym e ∙ ap (λ (x : Line). x.words) same)),
    )
    go (Some words) e = (
      λ h.
          let same : l ≡ record { number = l.number; words = Some words } = ap
          (λ (o : Option (List (List ℕ))). record { number = l.number; words = o }) e in
          (l.number, words, more, ap (λ (x : Line). x ∷ more) same, (whole_limit what m l.number last (place l.number words) more).0 h),
      λ h.
          let same : l ≡ record { number = h.0; words = Some h.1 } = cc (h.3) in
          let at : h.0 ≡ l.number = sym (ap (λ (x : Line). x.number) same) in
          let some : h.1 ≡ words = cc (sym e ∙ ap (λ (x : Line). x.words) same) in
          let fails : place l.number words ≡ Err (Limit what m) = ap (λ (k : ℕ). place k words) (sym at)
          ∙ ap (λ (ws : List (List ℕ)). place h.0 ws) (sym some) ∙ h.4 in
          (whole_limit what m l.number last (place l.number words) more).1 fails,
    )

fixed_never : (name : List ℕ) (what : Counted) (m at : ℕ) (words : List (List ℕ)) → fixed name at words ≡ Err (Limit what m) → ⊥
unfolding fixed
fixed_never name what m at [] h = absurd (cc (h))
fixed_never name what m at (w ∷ ws) h = go (bytes_eq w name) h
  where
    go : (b : Bool) → cond b (give {A = Unit {0}} tt) (fault Word) at ws ≡ Err (Limit what m) → ⊥
    go true e = absurd (cc (e))
    go false e = absurd (cc (e))

within-limit : (name : List ℕ) (what : Counted) (most m at : ℕ) (words : List (List ℕ))
    → (counted_within name what most at words ≡ Err (Limit what m))
    ↔ ((rest : List (List ℕ)) × (words ≡ name ∷ rest) × StartsWithNumeral m rest × (most < m))
unfolding counted_within
within-limit name what most m at words = (
  λ h. elim (bind_err (λ _. limited what most) at (fixed name at words) (Limit what m) h) [
    | inl first ↦ absurd (fixed_never name what m at words first)
    | inr next ↦
        let front = (Takes-fixed name at words next.0.1 next.0.0).0 next.1 in
        let split : words ≡ name ∷ next.0.1 = front.1 ∙ ap (λ (t : List (List ℕ)). t ++ next.0.1) front.2 in
        let found = (limited-limit what most m at next.0.1).0 next.2 in
        (next.0.1, split, found.0, found.1)
  ],
  λ h.
      let first : fixed name at words ≡ Ok (tt, h.0) = (Takes-fixed name at words h.0 tt).1 (name ∷ [], h.1, refl) in
      rw first ((limited-limit what most m at h.0).1 (h.2, h.3)),
)

pub line-within-limit : (name : List ℕ) (what : Counted) (most m last : ℕ) (text : List Line)
    → (line (counted_within name what most) last text ≡ Err (Limit what m))
    ↔ ((n : ℕ) × (words : List (List ℕ)) × (more : List Line) × (text ≡ record { number = n; words = Some (name ∷ words) } ∷ more)
    × StartsWithNumeral m words × (most < m))
line-within-limit name what most m last text = (
  λ h.
      let found = (line-limit (counted_within name what most) what m last text).0 h in
      let words = (within-limit name what most m found.0 found.1).0 found.4 in (
        found.0,
        words.0,
        found.2,
        found.3
            ∙ ap (λ (ws : List (List ℕ)). record { number = found.0; words = Some ws } ∷ found.2) words.1,
        words.2,
        words.3,
      ),
  λ h. (line-limit (counted_within name what most) what m last text).1
      (h.0, name ∷ h.1, h.2, h.3, (within-limit name what most m h.0 (name ∷ h.1)).1 (h.1, refl, h.4, h.5)),
)

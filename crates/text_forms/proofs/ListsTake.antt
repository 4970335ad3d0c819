-- The same in plain words: so many increasing positions, one or more of them, and one place many times.
use Rattle.std.proofs.Common.{◌≡◌, ℕ, zero, suc, ◌+◌, ◌-◌, ◌<◌, ◌≤◌, ◌↔◌, List, [], ◌∷◌, ◌++◌, length, map, max, get_or, refl, sym, ap}
use Rattle.std.proofs.Common.{◌∙◌, subst, arith}
use Rattle.std.specs.List.{AllByRecursion}
use Rattle.std.specs.List.Sorted.{IsStrictlyIncreasing}
use Rattle.std.proofs.lemmas.List.{append-nil}
use Rattle.text_forms.specs.Reading.{Reads, ◌>>=◌, give}
use Rattle.text_forms.specs.Places.{entry, positions, some_positions, times}
use Rattle.text_forms.specs.Spelling.{IsOneNumeral, AreNumerals, SpellsPositions, Takes, Fills}
use Rattle.text_forms.proofs.Taking.{Takes-give, Takes-bind, Takes-same}
use Rattle.text_forms.proofs.PlacesTake.{Takes-entry}
use Rattle.text_forms.proofs.PositionsTake.{IsSetFrom, SpellsFrom, Takes-positions_above}

set_below : (from lines : ℕ) (ps : List ℕ) → IsSetFrom from lines ps → AllByRecursion (λ p. p < lines) ps
set_below from lines [] h = tt
set_below from lines (p ∷ ps) h = (h.1, set_below (p + 1) lines ps h.2)

set_increases : (from lines : ℕ) (ps : List ℕ) → IsSetFrom from lines ps → IsStrictlyIncreasing ps
set_increases from lines [] h k lt = absurd (omega arith)
set_increases from lines (p ∷ []) h k lt = absurd (omega arith)
set_increases from lines (p ∷ q ∷ ps) h zero lt = omega (arith, h.2.0)
set_increases from lines (p ∷ q ∷ ps) h (suc k) lt =
    let e : suc k + 1 ≡ suc (k + 1) = omega arith in rw e (set_increases (p + 1) lines (q ∷ ps) h.2 k (omega arith))

increases_after : (p : ℕ) (ps : List ℕ) → IsStrictlyIncreasing (p ∷ ps) → IsStrictlyIncreasing ps
increases_after p ps h k lt = let e : suc k + 1 ≡ suc (k + 1) = omega arith in rw e at (h (suc k) (omega arith))

set_from : (from lines : ℕ) (ps : List ℕ) → (0 < length ps → from ≤ get_or ps 0 0) → IsStrictlyIncreasing ps
    → AllByRecursion (λ p. p < lines) ps → IsSetFrom from lines ps
set_from from lines [] first h below = tt
set_from from lines (p ∷ []) first h below = (first (omega arith), below.0, tt)
set_from from lines (p ∷ q ∷ ps) first h below = (
  first (omega arith),
  below.0,
  set_from (p + 1) lines (q ∷ ps) (λ some. let next = h 0 (omega arith) in omega arith)
      (increases_after p (q ∷ ps) h) below.1,
)

set_is_short : (from lines : ℕ) (ps : List ℕ) → IsSetFrom from lines ps → length ps ≤ lines - from
set_is_short from lines [] h = omega arith
set_is_short from lines (p ∷ ps) h = omega (arith, h.0, h.1, set_is_short (p + 1) lines ps h.2)

-- increasing positions are no more than there are positions
pub positions_are_few : (lines : ℕ) (ps : List ℕ) → IsStrictlyIncreasing ps → AllByRecursion (λ p. p < lines) ps → length ps ≤ lines
positions_are_few lines ps increasing below =
    omega (arith, set_is_short 0 lines ps (set_from 0 lines ps (λ some. omega arith) increasing below))

spells : (lines : ℕ) (ps : List ℕ) (ws : List (List ℕ)) → SpellsFrom 0 lines ps ws ↔ SpellsPositions lines ps ws
spells lines ps ws = (
  λ h. record { increasing = set_increases 0 lines ps h.0; below = set_below 0 lines ps h.0; numerals = h.1 },
  λ h. (set_from 0 lines ps (λ some. omega arith) h.increasing h.below, h.numerals),
)

pub Takes-positions : (count lines : ℕ) → Takes (λ ps ws. (length ps ≡ count) × SpellsPositions lines ps ws) (positions count lines)
Takes-positions count lines =
    Takes-same (λ ps ws. (length ps ≡ count) × SpellsFrom 0 lines ps ws) _ (positions count lines)
    (λ ps ws. (λ h. (h.0, (spells lines ps ws).0 h.1), λ h. (h.0, (spells lines ps ws).1 h.1)))
    (Takes-positions_above count lines 0)

length-numerals : (ns : List ℕ) (ws : List (List ℕ)) → AreNumerals ns ws → length ns ≡ length ws
length-numerals [] [] h = refl
length-numerals [] (w ∷ ws) h = absurd h
length-numerals (n ∷ ns) [] h = absurd h
length-numerals (n ∷ ns) (w ∷ ws) h = ap suc (length-numerals ns ws h.1)

length-plus_one : (ps : List ℕ) → length (map (λ p. p + 1) ps) ≡ length ps
length-plus_one [] = refl
length-plus_one (p ∷ ps) = ap suc (length-plus_one ps)

pub Fills-some_positions : (lines : ℕ) → Fills (λ ps ws. (0 < length ps) × SpellsPositions lines ps ws) (some_positions lines)
unfolding some_positions
Fills-some_positions lines line ws ps = (
  λ e.
      let h = (Takes-positions (max 1 (length ws)) lines line ws [] ps).0 e in
      let all : ws ≡ h.0 = h.1 ∙ append-nil h.0 in
      (omega (arith, h.2.0), subst (λ (t : List (List ℕ)). SpellsPositions lines ps t) (sym all) h.2.1),
  λ h.
      let same : length ps ≡ length ws = sym (length-plus_one ps) ∙ length-numerals (map (λ p. p + 1) ps) ws h.1.numerals in
      (Takes-positions (max 1 (length ws)) lines line ws [] ps).1 (ws, sym (append-nil ws), (omega (arith, h.0), h.1)),
)

-- a value for each time, and what spells each in order
abbrev pub SpellsTimes : {T A : Type 0} → (A → List T → Type 0) → List A → List T → Type 0
SpellsTimes S [] left = left ≡ []
SpellsTimes {T = T} S (x ∷ xs) left = (front : List T) × (back : List T) × (left ≡ front ++ back) × S x front × SpellsTimes S xs back

times_zero : {T A : Type 0} (S : A → List T → Type 0) (xs : List A) (left : List T)
    → ((xs ≡ []) × (left ≡ [])) ↔ ((length xs ≡ 0) × SpellsTimes S xs left)
times_zero S [] left = (λ h. (refl, h.1), λ h. (refl, h.1))
times_zero S (x ∷ xs) left = (λ h. absurd (cc (h.0)), λ h. absurd (omega (arith, h.0)))

abbrev TimesParts : {T A : Type 0} → (A → List T → Type 0) → ℕ → List A → List T → Type 0
TimesParts {T = T} {A = A} S n xs whole =
    (x : A) × (front : List T) × (back : List T) × (whole ≡ front ++ back) × S x front
    × ((ys : List A) × (f : List T) × (b : List T) × (back ≡ f ++ b) × ((length ys ≡ n) × SpellsTimes S ys f) × ((xs ≡ x ∷ ys) × (b ≡ [])))

times_forth : {T A : Type 0} (S : A → List T → Type 0) (n : ℕ) (xs : List A) (whole : List T) → TimesParts S n xs whole
    → (length xs ≡ suc n) × SpellsTimes S xs whole
times_forth {T = T} {A = A} S n xs whole h =
    let last = h.5 in
    let back : h.2 ≡ last.1 = last.3 ∙ ap (λ (t : List T). last.1 ++ t) last.5.1 ∙ append-nil last.1 in
    let cons : SpellsTimes S (h.0 ∷ last.0) whole =
    (h.1, h.2, h.3, h.4, subst (λ (t : List T). SpellsTimes S last.0 t) (sym back) last.4.1) in
    (ap length last.5.0 ∙ ap suc last.4.0, subst (λ (t : List A). SpellsTimes S t whole) (sym last.5.0) cons)

times_back : {T A : Type 0} (S : A → List T → Type 0) (n : ℕ) (xs : List A) (whole : List T) → length xs ≡ suc n → SpellsTimes S xs whole
    → TimesParts S n xs whole
times_back S n [] whole e h = absurd (omega arith)
times_back S n (x ∷ xs) whole e h = (x, h.0, h.1, h.2, h.3, (xs, h.1, [], sym (append-nil h.1), (cc (e), h.4), (refl, refl)))

pub Takes-times : {T A : Type 0} (S : A → List T → Type 0) (n : ℕ) (reader : Reads T A) → Takes S reader
    → Takes (λ xs left. (length xs ≡ n) × SpellsTimes S xs left) (times n reader)
unfolding times
Takes-times S zero reader takes = Takes-same (λ xs left. (xs ≡ []) × (left ≡ [])) _ (give []) (times_zero S) (Takes-give [])
Takes-times {T = T} {A = A} S (suc n) reader takes =
    Takes-same (TimesParts S n) _ (times (suc n) reader) (λ xs left. (times_forth S n xs left, λ h. times_back S n xs left h.0 h.1))
    (Takes-bind S
    (λ x xs back. (ys : List A) × (f : List T) × (b : List T) × (back ≡ f ++ b) × ((length ys ≡ n) × SpellsTimes S ys f)
    × ((xs ≡ x ∷ ys) × (b ≡ [])))
    reader (λ x. times n reader >>= λ ys. give (x ∷ ys)) takes
    (λ x. Takes-bind (λ ys f. (length ys ≡ n) × SpellsTimes S ys f) (λ ys xs b. (xs ≡ x ∷ ys) × (b ≡ [])) (times n reader)
    (λ ys. give (x ∷ ys))
    (Takes-times S n reader takes) (λ ys. Takes-give (x ∷ ys))))

entries_are : (order : ℕ) (xs : List ℕ) (ws : List (List ℕ)) → SpellsTimes (λ n v. IsOneNumeral n v × (n < order)) xs ws
    → AreNumerals xs ws × AllByRecursion (λ n. n < order) xs
entries_are order [] ws h = rw h (tt, tt)
entries_are order (x ∷ xs) ws h =
    let more = entries_are order xs h.1 h.4 in
    let whole : ws ≡ h.3.0.0 ∷ h.1 = h.2 ∙ ap (λ (t : List (List ℕ)). t ++ h.1) h.3.0.1 in
    rw whole ((h.3.0.2, more.0), (h.3.1, more.1))

are_entries : (order : ℕ) (xs : List ℕ) (ws : List (List ℕ)) → AreNumerals xs ws → AllByRecursion (λ n. n < order) xs
    → SpellsTimes (λ n v. IsOneNumeral n v × (n < order)) xs ws
are_entries order [] [] h below = refl
are_entries order [] (w ∷ ws) h below = absurd h
are_entries order (x ∷ xs) [] h below = absurd h
are_entries order (x ∷ xs) (w ∷ ws) h below = (w ∷ [], ws, refl, ((w, refl, h.0), below.0), are_entries order xs ws h.1 below.1)

pub Takes-entries : (n order : ℕ)
    → Takes (λ xs ws. (length xs ≡ n) × AreNumerals xs ws × AllByRecursion (λ x. x < order) xs) (times n (entry order))
Takes-entries n order =
    Takes-same (λ xs ws. (length xs ≡ n) × SpellsTimes (λ m v. IsOneNumeral m v × (m < order)) xs ws) _ (times n (entry order))
    (λ xs ws. (
      λ h. let all = entries_are order xs ws h.1 in (h.0, all.0, all.1),
      λ h. (h.0, are_entries order xs ws h.1 h.2),
    ))
    (Takes-times (λ m v. IsOneNumeral m v × (m < order)) n (entry order) (Takes-entry order))

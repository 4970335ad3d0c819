-- Which lists the places of many words give.
use Rattle.std.proofs.Common.{◌≡◌, ℕ, zero, suc, ◌+◌, ◌-◌, ◌<◌, ◌≤◌, List, [], ◌∷◌, ◌++◌, length, map, refl, sym, ap, ◌∙◌, subst, arith}
use Rattle.std.proofs.lemmas.List.{append-nil}
use Rattle.text_forms.specs.Reading.{◌>>=◌, give}
use Rattle.text_forms.specs.Places.{position, positions_above}
use Rattle.text_forms.specs.Spelling.{IsNumeralOf, IsOneNumeral, AreNumerals, Takes}
use Rattle.text_forms.proofs.Taking.{Takes-give, Takes-bind, Takes-same}
use Rattle.text_forms.proofs.PlacesTake.{IsPosition, Takes-position}

-- increasing positions below lines, from one on
abbrev pub IsSetFrom : ℕ → ℕ → List ℕ → Type 0
IsSetFrom from lines [] = Unit {0}
IsSetFrom from lines (p ∷ ps) = (from ≤ p) × (p < lines) × IsSetFrom (p + 1) lines ps

abbrev pub SpellsFrom : ℕ → ℕ → List ℕ → List (List ℕ) → Type 0
SpellsFrom from lines ps ws = IsSetFrom from lines ps × AreNumerals (map (λ p. p + 1) ps) ws

pub no_numerals : (ws : List (List ℕ)) → AreNumerals [] ws → ws ≡ []
no_numerals [] h = refl
no_numerals (w ∷ ws) h = absurd h

-- the words of a position and of those after it
record Step (count lines before : ℕ) (ps : List ℕ) (ws : List (List ℕ)) : Type 0 where
  n : ℕ
  others : List ℕ
  word : List ℕ
  more : List (List ℕ)
  ps_are : ps ≡ (n - 1) ∷ others
  ws_are : ws ≡ word ∷ more
  numeral : IsNumeralOf n word
  in_range : IsPosition lines before n
  counted : length others ≡ count
  rest : SpellsFrom n lines others more

step_to : (count lines before : ℕ) (ps : List ℕ) (ws : List (List ℕ)) → Step count lines before ps ws
    → (length ps ≡ suc count) × SpellsFrom before lines ps ws
step_to count lines before ps ws s =
    let value : (s.n - 1) + 1 ≡ s.n = omega (arith, s.in_range.0) in
    let set : IsSetFrom before lines
    ((s.n - 1) ∷ s.others) = (
      omega (arith, s.in_range.2, value),
      omega (arith, s.in_range.1, value),
      subst
          (λ (k : ℕ). IsSetFrom k lines s.others) (sym value) s.rest.0,
    ) in
    let numerals : AreNumerals (((s.n - 1) + 1) ∷ map (λ p. p + 1) s.others)
    (s.word ∷ s.more) = (subst (λ (k : ℕ). IsNumeralOf k s.word) (sym value) s.numeral, s.rest.1) in (
      ap length s.ps_are ∙ ap suc s.counted,
      (
        subst (λ (qs : List ℕ). IsSetFrom before lines qs) (sym s.ps_are) set,
        rw (s.ps_are, s.ws_are) numerals,
      ),
    )

step_from : (count lines before : ℕ) (ps : List ℕ) (ws : List (List ℕ)) → length ps ≡ suc count → SpellsFrom before lines ps ws
    → Step count lines before ps ws
step_from count lines before [] ws e h = absurd (omega arith)
step_from count lines before (p ∷ ps) [] e h = absurd h.1
step_from count lines before (p ∷ ps) (w ∷ ws) e h =
    let value : p ≡ (p + 1) - 1 = omega arith in
    record {
      n = p + 1;
      others = ps;
      word = w;
      more = ws;
      ps_are = ap (λ (k : ℕ). k ∷ ps) value;
      ws_are = refl;
      numeral = h.1.0;
      in_range = (omega arith, omega (arith, h.0.1), omega (arith, h.0.0));
      counted = cc (e);
      rest = (h.0.2, h.1.1);
    }

abbrev Parts : ℕ → ℕ → ℕ → List ℕ → List (List ℕ) → Type 0
Parts count lines before ps whole =
    (n : ℕ) × (front : List (List ℕ)) × (back : List (List ℕ)) × (whole ≡ front ++ back)
    × (IsOneNumeral n front × IsPosition lines before n)
    × ((qs : List ℕ) × (f : List (List ℕ)) × (b : List (List ℕ)) × (back ≡ f ++ b) × ((length qs ≡ count) × SpellsFrom n lines qs f)
    × ((ps ≡ (n - 1) ∷ qs) × (b ≡ [])))

parts_step : (count lines before : ℕ) (ps : List ℕ) (whole : List (List ℕ)) → Parts count lines before ps whole
    → Step count lines before ps whole
parts_step count lines before ps whole h =
    let last = h.5 in
    let back : h.2 ≡ last.1 = last.3 ∙ ap (λ (t : List (List ℕ)). last.1 ++ t) last.5.1 ∙ append-nil last.1 in
    record {
      n = h.0;
      others = last.0;
      word = h.4.0.0;
      more = last.1;
      ps_are = last.5.0;
      ws_are = h.3 ∙ ap (λ (t : List (List ℕ)). t ++ h.2) h.4.0.1 ∙ ap (λ (t : List (List ℕ)). h.4.0.0 ∷ t) back;
      numeral = h.4.0.2;
      in_range = h.4.1;
      counted = last.4.0;
      rest = last.4.1;
    }

step_parts : (count lines before : ℕ) (ps : List ℕ) (whole : List (List ℕ)) → Step count lines before ps whole
    → Parts count lines before ps whole
step_parts count lines before ps whole s = (
  s.n,
  s.word ∷ [],
  s.more,
  s.ws_are,
  ((s.word, refl, s.numeral), s.in_range),
  (s.others, s.more, [], sym (append-nil s.more), (s.counted, s.rest), (s.ps_are, refl)),
)

pub Takes-positions_above : (count lines before : ℕ)
    → Takes (λ ps ws. (length ps ≡ count) × SpellsFrom before lines ps ws) (positions_above count lines before)
unfolding positions_above
Takes-positions_above zero lines before =
    Takes-same (λ ps ws. (ps ≡ []) × (ws ≡ [])) _ (give [])
    (λ ps ws. (λ h. rw (h.0, h.1) (refl, (tt, tt)), λ h. none_left ps ws h.0 h.1.1))
    (Takes-give [])
  where
    none_left : (ps : List ℕ) (ws : List (List ℕ)) → length ps ≡ 0 → AreNumerals (map (λ p. p + 1) ps) ws → (ps ≡ []) × (ws ≡ [])
    none_left [] ws e h = (refl, no_numerals ws h)
    none_left (p ∷ ps) ws e h = absurd (omega arith)
Takes-positions_above (suc count) lines before =
    Takes-same (Parts count lines before) _ (positions_above (suc count) lines before)
    (λ ps whole. (
      λ h. step_to count lines before ps whole (parts_step count lines before ps whole h),
      λ h. step_parts count lines before ps whole (step_from count lines before ps whole h.0 h.1),
    ))
    (Takes-bind (λ n ws. IsOneNumeral n ws × IsPosition lines before n)
    (λ n ps back. (qs : List ℕ) × (f : List (List ℕ)) × (b : List (List ℕ)) × (back ≡ f ++ b)
    × ((length qs ≡ count) × SpellsFrom n lines qs f) × ((ps ≡ (n - 1) ∷ qs) × (b ≡ [])))
    (position lines before) (λ n. positions_above count lines n >>= λ qs. give ((n - 1) ∷ qs)) (Takes-position lines before)
    (λ n. Takes-bind (λ qs f. (length qs ≡ count) × SpellsFrom n lines qs f) (λ qs ps b. (ps ≡ (n - 1) ∷ qs) × (b ≡ []))
    (positions_above count lines n) (λ qs. give ((n - 1) ∷ qs))
    (Takes-positions_above count lines n) (λ qs. Takes-give ((n - 1) ∷ qs))))

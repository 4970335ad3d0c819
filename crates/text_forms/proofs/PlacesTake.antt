-- Which values the places give: those that the words spell.
use Rattle.std.proofs.Common.{◌≡◌, ℕ, ◌<◌, ◌≤◌, ◌↔◌, List, [], ◌∷◌, ◌++◌, true, cond, None, Some, Option, refl, sym, ap, ◌∙◌, subst}
use Rattle.std.proofs.Common.{arith, ltb, leb, eqb}
use Rattle.std.specs.Prelude.{◌&&◌}
use Rattle.std.proofs.lemmas.List.{append-nil}
use Rattle.std.specs.Str.{bytes_eq}
use Rattle.std.proofs.lemmas.Bool.{eqb-true, eq-eqb, leb-true, le-leb, ltb-true, lt-ltb, and_parts, and_from}
use Rattle.std.proofs.lemmas.Slice.Eq.{bytes_eq-Decides}
use Rattle.line_lexer.specs.Numbers.{number_of}
use Rattle.line_lexer.specs.declared.fault.TextFault.TheVariants.{Word, Version, Range, Order}
use Rattle.line_lexer.specs.declared.refusal.Counted.{Counted}
use Rattle.text_forms.specs.Reading.{give, fault, above}
use Rattle.text_forms.specs.Places.{Place, word, fixed, spelled_number, number, version_number, limited, entry, as_position, position}
use Rattle.text_forms.specs.Spelling.{IsOneNumeral, Takes}
use Rattle.text_forms.proofs.Taking.{same_given, Takes-give, Takes-fault, Takes-above, Takes-bind, Takes-same, Takes-only, Takes-tested}
use Rattle.text_forms.proofs.Taking.{Takes-where}
use Rattle.text_forms.proofs.Numerals.{number_of-numeral}

pub Takes-word : Takes (λ w ws. ws ≡ w ∷ []) word
Takes-word at [] rest x = (
  λ e. absurd (cc (e)),
  λ h.
      let none : [] ≡ x ∷ rest = h.1 ∙ ap (λ (ws : List (List ℕ)). ws ++ rest) h.2 in absurd (cc (none)),
)
Takes-word at (w ∷ ws) rest x = (
  λ e. let same = same_given (w, ws) (x, rest) e in (w ∷ [], ap (λ (t : List (List ℕ)). w ∷ t) same.1, ap (λ (v : List ℕ). v ∷ []) same.0),
  λ h. let whole : w ∷ ws ≡ x ∷ rest = h.1 ∙ ap (λ (t : List (List ℕ)). t ++ rest) h.2 in cc (whole),
)

bytes_eq-means : (text w : List ℕ) → (bytes_eq w text ≡ true) ↔ (w ≡ text)
bytes_eq-means text w = bytes_eq-Decides w text

pub Takes-fixed : (text : List ℕ) → Takes {A = Unit {0}} (λ _ ws. ws ≡ text ∷ []) (fixed text)
unfolding fixed
Takes-fixed text =
    Takes-same (λ y ws. (w : List ℕ) × (ws ≡ w ∷ []) × (w ≡ text) × (y ≡ tt)) _ (fixed text)
    (λ y ws. (
      λ h. h.1 ∙ ap (λ (w : List ℕ). w ∷ []) h.2,
      λ h. (text, h, refl, refl),
    ))
    (Takes-tested (λ w ws. ws ≡ w ∷ []) (λ w. w ≡ text) (λ w. bytes_eq w text) (λ w. tt) word (λ w. fault Word) Takes-word
    (λ w. Takes-fault Word) (bytes_eq-means text))

Takes-spelled : (n : Option ℕ) → Takes (λ m ws. (n ≡ Some m) × (ws ≡ [])) (spelled_number n)
Takes-spelled None at left rest m = (λ e. absurd (cc (e)), λ h. absurd (cc (h.2.0)))
Takes-spelled (Some n) at left rest m =
    Takes-same (λ m ws. (m ≡ n) × (ws ≡ [])) (λ m ws. (Some n ≡ Some m) × (ws ≡ [])) (give n)
    (λ m ws. (λ h. (ap Some (sym h.0), h.1), λ h. (cc (h.0), h.1))) (Takes-give n) at left rest m

pub Takes-number : Takes IsOneNumeral number
unfolding number
Takes-number =
    Takes-same (λ n whole. (w : List ℕ) × (front : List (List ℕ)) × (back : List (List ℕ)) × (whole ≡ front ++ back) × (front ≡ w ∷ [])
    × ((number_of w ≡ Some n) × (back ≡ []))) _ number
    (λ n whole. (
      λ h. (
        h.0,
        h.3 ∙ ap (λ (t : List (List ℕ)). t ++ h.2) h.4
            ∙ ap (λ (t : List (List ℕ)). h.0 ∷ t) h.5.1,
        (number_of-numeral n h.0).0 h.5.0,
      ),
      λ h. (h.0, h.0 ∷ [], [], h.1, refl, ((number_of-numeral n h.0).1 h.2, refl)),
    ))
    (Takes-bind (λ w ws. ws ≡ w ∷ []) (λ w n ws. (number_of w ≡ Some n) × (ws ≡ [])) word (λ w. spelled_number (number_of w)) Takes-word
    (λ w. Takes-spelled (number_of w)))

pub Takes-version : Takes {A = Unit {0}} (λ _ ws. IsOneNumeral 1 ws) version_number
unfolding version_number
Takes-version =
    Takes-same (λ y ws. (n : ℕ) × IsOneNumeral n ws × (n ≡ 1) × (y ≡ tt)) _ version_number
    (λ y ws. (
      λ h. subst (λ (n : ℕ). IsOneNumeral n ws) h.2 h.1,
      λ h. (1, h, refl, refl),
    ))
    (Takes-tested IsOneNumeral (λ n. n ≡ 1) (λ n. eqb n 1) (λ n. tt) number (λ n. fault Version) Takes-number (λ n. Takes-fault Version)
    (λ n. (eqb-true n 1, eq-eqb n 1)))

pub Takes-limited : (what : Counted) (most : ℕ) → Takes (λ n ws. IsOneNumeral n ws × (n ≤ most)) (limited what most)
unfolding limited
Takes-limited what most =
    Takes-where IsOneNumeral (λ n. n ≤ most) (λ n. leb n most) number (λ n. above what n) Takes-number (λ n. Takes-above what n)
    (λ n. (leb-true n most, le-leb n most))

pub Takes-entry : (order : ℕ) → Takes (λ n ws. IsOneNumeral n ws × (n < order)) (entry order)
unfolding entry
Takes-entry order =
    Takes-where IsOneNumeral (λ n. n < order) (λ n. ltb n order) number (λ n. fault Range) Takes-number (λ n. Takes-fault Range)
    (λ n. (ltb-true n order, lt-ltb n order))

in_range : (lines n : ℕ) → ((leb 1 n && leb n lines) ≡ true) ↔ ((1 ≤ n) × (n ≤ lines))
in_range lines n = (
  λ e. let h = and_parts (leb 1 n) (leb n lines) e in (leb-true 1 n h.0, leb-true n lines h.1),
  λ h. and_from (leb 1 n) (leb n lines) (le-leb 1 n h.0) (le-leb n lines h.1),
)

-- a position in range, above the one before it
abbrev pub IsPosition : ℕ → ℕ → ℕ → Type 0
IsPosition lines before n = (1 ≤ n) × (n ≤ lines) × (before < n)

pub Takes-position : (lines before : ℕ) → Takes (λ n ws. IsOneNumeral n ws × IsPosition lines before n) (position lines before)
unfolding position as_position
Takes-position lines before =
    let later : ℕ → Place ℕ = λ n. cond (ltb before n) (give n) (fault Order) in
    let R : ℕ → ℕ → List (List ℕ) → Type 0 = λ n m ws. ((leb 1 n && leb n lines) ≡ true)
    × ((ltb before n ≡ true) × ((m ≡ n) × (ws ≡ []))) in
    Takes-same (λ m whole. (n : ℕ) × (front : List (List ℕ)) × (back : List (List ℕ)) × (whole ≡ front ++ back) × IsOneNumeral n front
    × R n m back) _ (position lines before)
    (λ m whole. (
      λ h.
          let nil : h.2 ≡ [] = h.5.1.1.1 in
          let same : m ≡ h.0 = h.5.1.1.0 in
          let all : whole ≡ h.1 = h.3 ∙ ap (λ (t : List (List ℕ)). h.1 ++ t) nil ∙ append-nil h.1 in
          let range = (in_range lines h.0).0 h.5.0 in
          let above' = ltb-true before h.0 h.5.1.0 in (
            subst (λ (n : ℕ). IsOneNumeral n whole) (sym same) (subst (λ (ws : List (List ℕ)). IsOneNumeral h.0 ws) (sym all) h.4),
            (omega (arith, range.0, same), omega (arith, range.1, same), omega (arith, above', same)),
          ),
      λ h. (m, whole, [], sym (append-nil whole), h.0, ((in_range lines m).1 (h.1.0, h.1.1), (lt-ltb before m h.1.2, (refl, refl)))),
    ))
    (Takes-bind IsOneNumeral R number (λ n. cond (leb 1 n && leb n lines) (later n) (fault Range)) Takes-number
    (λ n. Takes-only (λ m ws. (ltb before n ≡ true) × ((m ≡ n) × (ws ≡ []))) (leb 1 n && leb n lines) (later n) (fault Range)
    (Takes-only (λ m ws. (m ≡ n) × (ws ≡ [])) (ltb before n) (give n) (fault Order) (Takes-give n) (Takes-fault Order))
    (Takes-fault Range)))

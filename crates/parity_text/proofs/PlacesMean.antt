-- Which values the places of the texts give: those that their words spell.
use Rattle.std.proofs.Common.{◌≡◌, ℕ, ◌<◌, ◌↔◌, List, [], ◌∷◌, ◌++◌, length, true, eqb, refl, sym, ap, ◌∙◌, subst}
use Rattle.std.specs.List.{Contains, list_any}
use Rattle.std.specs.Prelude.{codes}
use Rattle.std.proofs.lemmas.Bool.{eqb-true}
use Rattle.std.proofs.lemmas.Cmp.{nat_eq_equiv}
use Rattle.std.proofs.lemmas.Map.Views.{list_any-from_Contains, Contains-from_any}
use Rattle.line_lexer.specs.declared.fault.TextFault.TheVariants.{Field}
use Rattle.small_fields.specs.FieldName.{field_orders}
use Rattle.parity_text.specs.Spells.{SpellsVector, SpellsPair, Named}
use Rattle.parity_text.specs.Texts.{order, field, vector, pair, listed_set, kernel_vector, part}
use Rattle.parity_text.proofs.Meaning.{Takes-named, Fills-named, Takes-vector}
use Rattle.text_forms.specs.Places.{fixed, number, positions, some_positions}
use Rattle.text_forms.specs.Reading.{◌>>=◌, give, fault}
use Rattle.text_forms.specs.Spelling.{IsOneNumeral, IsNameAndNumeral, SpellsPositions, Takes, Fills}
use Rattle.text_forms.proofs.Taking.{Takes-fault, Takes-bind, Takes-made, Takes-where, Takes-as}
use Rattle.text_forms.proofs.ListsTake.{Takes-positions, Fills-some_positions}
use Rattle.text_forms.proofs.PlacesTake.{Takes-number}

is_order : (n : ℕ) → (list_any (λ q. eqb n q) field_orders ≡ true) ↔ Contains field_orders n
is_order n = (
  λ e. Contains-from_any {eq = eqb} eqb-true n field_orders e,
  λ h. list_any-from_Contains {eq = eqb} nat_eq_equiv n field_orders h,
)

Takes-order : Takes (λ n ws. IsOneNumeral n ws × Contains field_orders n) order
unfolding order
Takes-order = Takes-where IsOneNumeral (λ n. Contains field_orders n) (λ n. list_any (λ q. eqb n q) field_orders) number
    (λ n. fault Field) Takes-number (λ n. Takes-fault Field) is_order

pub Takes-field : Takes (λ q ws. IsNameAndNumeral (codes "field") q ws × Contains field_orders q) field
unfolding field
Takes-field =
    Takes-as field (Takes-named (codes "field") (λ n ws. IsOneNumeral n ws × Contains field_orders n) order Takes-order)
    (λ q ws. (
      λ h. ((h.2.0.0, h.1 ∙ ap (λ (t : List (List ℕ)). codes "field" ∷ t) h.2.0.1, h.2.0.2), h.2.1),
      λ h. (h.0.0 ∷ [], h.0.1, ((h.0.0, refl, h.0.2), h.1)),
    ))

-- the second vector, after the first
abbrev Second : ℕ → ℕ → List ℕ → List ℕ × List ℕ → List (List ℕ) → Type 0
Second q d u l ws = (v : List ℕ) × SpellsVector q d v ws × (l ≡ (u, v))

Takes-second : (q d : ℕ) (u : List ℕ)
    → Takes (Named (codes "|") (Second q d u)) (fixed (codes "|") >>= λ _. vector q d >>= λ v. give (u, v))
Takes-second q d u = Takes-named (codes "|") (Second q d u) (vector q d >>= λ v. give (u, v))
    (Takes-made (SpellsVector q d) (λ v. (u, v)) (vector q d) (Takes-vector q d))

abbrev Both : ℕ → ℕ → List ℕ × List ℕ → List (List ℕ) → Type 0
Both q d l ws = (u : List ℕ) × (front : List (List ℕ)) × (back : List (List ℕ)) × (ws ≡ front ++ back) × SpellsVector q d u front
    × Named (codes "|") (Second q d u) l back

pub Takes-pair : (q d : ℕ) → Takes (SpellsPair q d) (pair q d)
unfolding pair
Takes-pair q d =
    Takes-as (pair q d)
    (Takes-named (codes "line") (Both q d) _
    (Takes-bind (SpellsVector q d) (λ u. Named (codes "|") (Second q d u)) (vector q d)
    (λ u. fixed (codes "|") >>= λ _. vector q d >>= λ v. give (u, v)) (Takes-vector q d) (Takes-second q d)))
    (λ l ws. (forth l ws, back l ws))
  where
    forth : (l : List ℕ × List ℕ) (ws : List (List ℕ)) → Named (codes "line") (Both q d) l ws → SpellsPair q d l ws
    forth l ws h =
        let one = h.2 in
        let two = one.5 in
        let same : l ≡ (one.0, two.2.0) = two.2.2 in
        subst (λ (k : List ℕ × List ℕ). SpellsPair q d k ws) (sym same) (record {
          first = one.1;
          second = two.0;
          words_are = h.1 ∙ ap (λ (t : List (List ℕ)). codes "line" ∷ t) (one.3 ∙ ap (λ (t : List (List ℕ)). one.1 ++ t) two.1);
          spells_first = one.4;
          spells_second = two.2.1;
        })

    back : (l : List ℕ × List ℕ) (ws : List (List ℕ)) → SpellsPair q d l ws → Named (codes "line") (Both q d) l ws
    back l ws h = (
      h.first ++ codes "|" ∷ h.second,
      h.words_are,
      (l.0, h.first, codes "|" ∷ h.second, refl, h.spells_first, (h.second, refl, (l.1, h.spells_second, refl))),
    )

pub Takes-listed_set : (lines count : ℕ)
    → Takes (Named (codes "set") (λ ps ws. (length ps ≡ count) × SpellsPositions lines ps ws)) (listed_set lines count)
unfolding listed_set
Takes-listed_set lines count = Takes-named (codes "set") (λ ps ws. (length ps ≡ count) × SpellsPositions lines ps ws)
    (positions count lines) (Takes-positions count lines)

pub Takes-kernel_vector : (q d : ℕ) → Takes (Named (codes "vector") (SpellsVector q d)) (kernel_vector q d)
unfolding kernel_vector
Takes-kernel_vector q d = Takes-named (codes "vector") (SpellsVector q d) (vector q d) (Takes-vector q d)

pub Fills-part : (lines : ℕ) → Fills (Named (codes "part") (λ ps ws. (0 < length ps) × SpellsPositions lines ps ws)) (part lines)
unfolding part
Fills-part lines = Fills-named (codes "part") (λ ps ws. (0 < length ps) × SpellsPositions lines ps ws) (some_positions lines)
    (Fills-some_positions lines)

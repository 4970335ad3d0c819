-- The determinant of two pairs of coordinates, by numbers and by elements.
use Rattle.std.proofs.Common.{◌≡◌, ◌≢◌, ℕ, ◌+◌, ◌*◌, ◌<◌, ◌≤◌, List, sym, ap, ◌∙◌, arith}
use Rattle.std.specs.Prelude.{slice_index}
use Rattle.std.proofs.lemmas.List.Elements.{All-get_or}
use Rattle.vector_spaces.proofs.Determinants.{determinant}
use Rattle.vector_spaces.proofs.Space.{Field, minus-plus, plus-minus, null-plus}
use Rattle.vector_spaces.proofs.Tuples.{line}
use Rattle.linear_algebra.specs.Scalars.{Scalars, IsScalar, IsField}
use Rattle.linear_algebra.specs.Vectors.{IsVector}
use Rattle.linear_algebra.proofs.Coordinates.{element, element-number, element-product}
use Rattle.linear_algebra.proofs.Elements.{Element, scalar_field}
use Rattle.matching_state.specs.DirectSteps.{HasDeterminantAt}
use Rattle.matching_state.proofs.Ties.{pair_at}

module _ {K : Type 0} (f : Field K) where
  infixl 65 ◌⊞◌
  infixl 70 ◌⊠◌
  open f use {zero as o, minus, ◌⊞◌, ◌⊠◌}

  same_of_difference : (x y : K) → x ⊞ minus ⊠ y ≡ o → x ≡ y
  same_of_difference x y e = sym (f.add-zero x) ∙ ap (λ t. x ⊞ t) (sym (minus-plus f (line f) y)) ∙ sym (f.add_assoc x (minus ⊠ y) y) ∙ ap (λ t. t ⊞ y) e ∙ null-plus f (line f) y

  difference_of_same : (x y : K) → x ≡ y → x ⊞ minus ⊠ y ≡ o
  difference_of_same x y e = ap (λ t. t ⊞ minus ⊠ y) e ∙ plus-minus f (line f) y

module _ (S : Scalars) (F : IsField S) where
  -- of scalars
  same_products : (a b c d : ℕ) → IsScalar S a → IsScalar S b → IsScalar S c → IsScalar S d → S.product a b ≡ S.product c d → (scalar_field S F).◌⊠◌ (element S F a) (element S F b) ≡ (scalar_field S F).◌⊠◌ (element S F c) (element S F d)
  same_products a b c d ha hb hc hd e = sym (element-product S F a b ha hb) ∙ ap (element S F) e ∙ element-product S F c d hc hd

  products_same : (a b c d : ℕ) → IsScalar S a → IsScalar S b → IsScalar S c → IsScalar S d → (scalar_field S F).◌⊠◌ (element S F a) (element S F b) ≡ (scalar_field S F).◌⊠◌ (element S F c) (element S F d) → S.product a b ≡ S.product c d
  products_same a b c d ha hb hc hd e =
      sym (element-number S F (S.product a b) (F.product_in a b ha hb)) ∙ ap (λ (x : Element S). x.0) (element-product S F a b ha hb ∙ e ∙ sym (element-product S F c d hc hd)) ∙ element-number S F (S.product c d) (F.product_in c d hc hd)

  module _ (n i : ℕ) (cs ds : List ℕ) (C : IsVector S n cs) (D : IsVector S n ds) (h : 2 * i + 1 < n) where
    pub entry : (es : List ℕ) (j : ℕ) → IsVector S n es → j ≤ 2 * i + 1 → IsScalar S (slice_index es j)
    entry es j E l = All-get_or (IsScalar S) es j 0 (let e = E.length_is in omega arith) E.entries

    pub determinant_by_elements : HasDeterminantAt S cs ds i → determinant (scalar_field S F) (pair_at S F cs i) (pair_at S F ds i) ≢ (scalar_field S F).zero
    determinant_by_elements n e = n (products_same _ _ _ _ (entry cs _ C (omega arith)) (entry ds _ D (omega arith)) (entry cs _ C (omega arith)) (entry ds _ D (omega arith)) (same_of_difference (scalar_field S F) _ _ e))

    pub determinant_by_numbers : determinant (scalar_field S F) (pair_at S F cs i) (pair_at S F ds i) ≢ (scalar_field S F).zero → HasDeterminantAt S cs ds i
    determinant_by_numbers n e = n (difference_of_same (scalar_field S F) _ _ (same_products _ _ _ _ (entry cs _ C (omega arith)) (entry ds _ D (omega arith)) (entry cs _ C (omega arith)) (entry ds _ D (omega arith)) e))

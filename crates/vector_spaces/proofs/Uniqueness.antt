-- The coefficients of a vector over an independent list are unique.
use Rattle.std.proofs.Common.{◌≡◌, ℕ, zero, suc, List, [], ◌∷◌, length, map, replicate, refl, sym, ap₂, ◌∙◌, arith}
use Rattle.std.proofs.lemmas.List.{length-map}
use Rattle.vector_spaces.proofs.Combination.{combination, coefficient_sum, combination-sum, combination-scale, independent_of, length-coefficient_sum}
use Rattle.vector_spaces.proofs.Independence.{IsIndependent}
use Rattle.vector_spaces.proofs.Space.{Field, Space, plus-minus}
use Rattle.vector_spaces.proofs.Splits.{same_of_difference}
use Rattle.vector_spaces.proofs.Tuples.{line}

module _ {K V : Type 0} (f : Field K) (s : Space f V) where
  open f use {zero as o, minus, ◌⊠◌}

  negatives : List K → List K
  negatives ds = map (λ d. minus ⊠ d) ds

  same_of_zeros : (n : ℕ) (cs ds : List K) → length cs ≡ n → length ds ≡ n → coefficient_sum f cs (negatives ds) ≡ replicate n o → cs ≡ ds
  unfolding negatives
  same_of_zeros n [] [] h k e = refl
  same_of_zeros n [] (d ∷ ds) h k e = absurd (omega arith)
  same_of_zeros n (c ∷ cs) [] h k e = absurd (omega arith)
  same_of_zeros zero (c ∷ cs) (d ∷ ds) h k e = absurd (omega arith)
  same_of_zeros (suc n) (c ∷ cs) (d ∷ ds) h k e = ap₂ (λ x xs. x ∷ xs) (same_of_difference (line f) c d (head e)) (same_of_zeros n cs ds (omega arith) (omega arith) (tail e))
    where
      head : {x y : K} {xs ys : List K} → x ∷ xs ≡ y ∷ ys → x ≡ y
      head q = cc

      tail : {x y : K} {xs ys : List K} → x ∷ xs ≡ y ∷ ys → xs ≡ ys
      tail q = cc

  pub unique_coefficients : (vs : List V) (cs ds : List K) → IsIndependent s vs → length cs ≡ length vs → length ds ≡ length vs → combination s cs vs ≡ combination s ds vs → cs ≡ ds
  unfolding negatives
  unique_coefficients vs cs ds i h k e =
      let l : length (negatives ds) ≡ length vs = length-map ds (λ d. minus ⊠ d) ∙ k in
      let difference : combination s (coefficient_sum f cs (negatives ds)) vs ≡ s.null =
      combination-sum f s cs (negatives ds) vs (h ∙ sym l) ∙ ap₂ s.◌⊕◌ e (combination-scale f s minus ds vs) ∙ plus-minus f s (combination s ds vs) in
      same_of_zeros (length vs) cs ds h k (independent_of f s [] vs i (coefficient_sum f cs (negatives ds)) (length-coefficient_sum f cs (negatives ds) (h ∙ sym l) ∙ h) difference)

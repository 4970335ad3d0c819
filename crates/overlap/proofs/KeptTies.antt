-- The pairs that are kept at a ratio: by numbers, and by elements.
use Rattle.std.proofs.Common.{◌≡◌, ℕ, zero, suc, ◌+◌, ◌*◌, ◌<◌, ◌⊎◌, inl, inr, List, [], ◌∷◌, All, length, get_or, refl, sym, ap, ap₂, ◌∙◌, subst, arith}
use Rattle.std.proofs.lemmas.List.Elements.{All-nil, All-cons, All-head, All-tail}
use Rattle.vector_spaces.proofs.Pairs.{scaled}
use Rattle.vector_spaces.proofs.Ranks.{choose}
use Rattle.vector_spaces.proofs.Tuples.{pair_dec}
use Rattle.linear_algebra.specs.Scalars.{Scalars, IsScalar, IsField}
use Rattle.linear_algebra.proofs.Coordinates.{element, element-number, element-product, element-zero}
use Rattle.linear_algebra.proofs.Elements.{Element, scalar_field}
use Rattle.matching_state.proofs.Ties.{pairs}
use Rattle.overlap.specs.Pairs.{IsKeptAt}
use Rattle.parity_theory.proofs.Ratios.{at_ratio, by_ratio}

module _ (S : Scalars) (F : IsField S) (c : ℕ) (hc : IsScalar S c) where
  -- b is c times a
  pub times_of_number : (a b : ℕ) → IsScalar S a → b ≡ S.product c a → element S F b ≡ (scalar_field S F).◌⊠◌ (element S F c) (element S F a)
  times_of_number a b h e = ap (element S F) e ∙ element-product S F c a hc h

  number_of_times : (a b : ℕ) → IsScalar S a → IsScalar S b → element S F b ≡ (scalar_field S F).◌⊠◌ (element S F c) (element S F a) → b ≡ S.product c a
  number_of_times a b h k e = sym (element-number S F b k) ∙ ap (λ (x : Element S). x.0) (e ∙ sym (element-product S F c a hc h))
      ∙ element-number S F (S.product c a) (F.product_in c a hc h)

  abbrev pair : ℕ → ℕ → Element S × Element S
  pair a b = (element S F a, element S F b)

  -- the pair that is kept of (a, a')
  kept_pair : (a a' b b' x y : ℕ) → IsScalar S a → IsScalar S a' → IsScalar S b → IsScalar S b' →
      IsKeptAt S c (a ∷ a' ∷ []) (b ∷ b' ∷ []) 0 x y →
      (pair x y ≡ choose (pair_dec (scalar_field S F).same_scalar (scalar_field S F).same_scalar (pair b b') (scaled (scalar_field S F) (element S F c) (pair a a'))) (pair a a')
      ((scalar_field S F).zero, (scalar_field S F).zero)) × IsScalar S x × IsScalar S y
  kept_pair a a' b b' x y ha ha' hb hb' (inl k) = (
    by_ratio (scalar_field S F) (λ z. pair x y ≡ z) (element S F c) (pair a a') (pair b b')
        (λ e. ap₂ pair k.1 k.2)
        (λ n. absurd (n (ap₂ (λ u v. (u, v)) (times_of_number a b ha k.0.0) (times_of_number a' b' ha' k.0.1)))),
    subst (IsScalar S) (sym k.1) ha,
    subst (IsScalar S) (sym k.2) ha',
  )
  kept_pair a a' b b' x y ha ha' hb hb' (inr k) = (
    by_ratio (scalar_field S F) (λ z. pair x y ≡ z) (element S F c) (pair a a') (pair b b')
        (λ e. absurd (k.0 (number_of_times a b ha hb (ap (λ (t : Element S × Element S). t.0) e), number_of_times a' b' ha' hb' (ap (λ (t : Element S × Element S). t.1) e))))
        (λ n. ap₂ pair k.1 k.2 ∙ ap₂ (λ u v. (u, v)) (element-zero S F) (element-zero S F)),
    subst (IsScalar S) (sym k.1) F.zero_in,
    subst (IsScalar S) (sym k.2) F.zero_in,
  )

  -- the same at two indices
  abbrev KeptBy : List ℕ → List ℕ → List ℕ → ℕ → ℕ → Type 0
  KeptBy cs ds ks m n =
      (((get_or ds m 0 ≡ S.product c (get_or cs m 0)) × (get_or ds n 0 ≡ S.product c (get_or cs n 0))) ×
      (get_or ks m 0 ≡ get_or cs m 0) × (get_or ks n 0 ≡ get_or cs n 0)) ⊎
      (¬ ((get_or ds m 0 ≡ S.product c (get_or cs m 0)) × (get_or ds n 0 ≡ S.product c (get_or cs n 0))) ×
      (get_or ks m 0 ≡ S.zero) × (get_or ks n 0 ≡ S.zero))

  shifted : (a a' b b' k k' : ℕ) (cs ds ks : List ℕ) (i : ℕ) → KeptBy (a ∷ a' ∷ cs) (b ∷ b' ∷ ds) (k ∷ k' ∷ ks) (2 * suc i) (2 * suc i + 1) →
      KeptBy cs ds ks (2 * i) (2 * i + 1)
  shifted a a' b b' k k' cs ds ks i h =
      let e : 2 * suc i ≡ suc (suc (2 * i)) = omega arith in
      let e' : 2 * suc i + 1 ≡ suc (suc (2 * i + 1)) = omega arith in
      subst (λ (m : ℕ). KeptBy (a ∷ a' ∷ cs) (b ∷ b' ∷ ds) (k ∷ k' ∷ ks) m (suc (suc (2 * i + 1)))) e
      (subst (λ (n : ℕ). KeptBy (a ∷ a' ∷ cs) (b ∷ b' ∷ ds) (k ∷ k' ∷ ks) (2 * suc i) n) e' h)

  pub kept_ties : (n : ℕ) (cs ds ks : List ℕ) → length cs ≡ 2 * n → length ds ≡ 2 * n → length ks ≡ 2 * n → All (IsScalar S) cs → All (IsScalar S) ds →
      ((i : ℕ) → i < n → IsKeptAt S c cs ds i (get_or ks (2 * i) 0) (get_or ks (2 * i + 1) 0)) →
      (pairs S F ks ≡ at_ratio (scalar_field S F) (element S F c) (pairs S F cs) (pairs S F ds)) × All (IsScalar S) ks
  unfolding pairs
  kept_ties zero [] [] [] l m n hc hd h = (refl, All-nil (IsScalar S))
  kept_ties zero (a ∷ cs) ds ks l m n hc hd h = absurd (omega arith)
  kept_ties zero [] (b ∷ ds) ks l m n hc hd h = absurd (omega arith)
  kept_ties zero [] [] (k ∷ ks) l m n hc hd h = absurd (omega arith)
  kept_ties (suc i) [] ds ks l m n hc hd h = absurd (omega arith)
  kept_ties (suc i) (a ∷ []) ds ks l m n hc hd h = absurd (omega arith)
  kept_ties (suc i) (a ∷ a' ∷ cs) [] ks l m n hc hd h = absurd (omega arith)
  kept_ties (suc i) (a ∷ a' ∷ cs) (b ∷ []) ks l m n hc hd h = absurd (omega arith)
  kept_ties (suc i) (a ∷ a' ∷ cs) (b ∷ b' ∷ ds) [] l m n hc hd h = absurd (omega arith)
  kept_ties (suc i) (a ∷ a' ∷ cs) (b ∷ b' ∷ ds) (k ∷ []) l m n hc hd h = absurd (omega arith)
  kept_ties (suc i) (a ∷ a' ∷ cs) (b ∷ b' ∷ ds) (k ∷ k' ∷ ks) l m n hc hd h =
      let c' : All (IsScalar S) (a' ∷ cs) = All-tail (IsScalar S) a (a' ∷ cs) hc in
      let d' : All (IsScalar S) (b' ∷ ds) = All-tail (IsScalar S) b (b' ∷ ds) hd in
      let first = kept_pair a a' b b' k k' (All-head (IsScalar S) a (a' ∷ cs) hc) (All-head (IsScalar S) a' cs c')
      (All-head (IsScalar S) b (b' ∷ ds) hd) (All-head (IsScalar S) b' ds d') (h 0 (omega arith)) in
      let rest = kept_ties i cs ds ks (omega arith) (omega arith) (omega arith) (All-tail (IsScalar S) a' cs c') (All-tail (IsScalar S) b' ds d')
      (λ j q. shifted a a' b b' k k' cs ds ks j (h (suc j) (omega arith))) in
      (ap₂ (λ x xs. x ∷ xs) first.0 rest.0, All-cons (IsScalar S) k (k' ∷ ks) first.1 (All-cons (IsScalar S) k' ks first.2 rest.1))

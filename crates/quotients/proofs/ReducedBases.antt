-- A vector's coefficients over a reduced basis are its entries at the pivots.
use Rattle.std.proofs.Common.{◌≡◌, ℕ, ◌<◌, List, [], length, get_or, sym, ap, ◌∙◌, subst, arith}
use Rattle.std.proofs.lemmas.List.{get_or-replicate, length-replicate}
use Rattle.std.proofs.lemmas.Grind.{same_number_lists}
use Rattle.std.proofs.lemmas.List.Elements.{All-get_or}
use Rattle.linear_algebra.specs.Scalars.{Scalars, IsScalar, IsField}
use Rattle.linear_algebra.specs.Spans.{Combines, IsIndependent}
use Rattle.linear_algebra.specs.Vectors.{IsVector, zero_vector}
use Rattle.echelon.proofs.Entries.{only_entry}
use Rattle.quotients.specs.ReducedBases.{IsReducedBasis}

module _ (S : Scalars) (F : IsField S) (d : ℕ) (rows : List (List ℕ)) (r : IsReducedBasis S d rows) where
  pub pivot_within : (i : ℕ) → i < length rows → get_or r.pivots i 0 < d
  pivot_within i l = subst (λ n. get_or r.pivots i 0 < n) (All-get_or (IsVector S d) rows i [] l r.vectors).length_is (r.reduced.leads i l).within

  pub coefficient_is_entry : (cs x : List ℕ) (i : ℕ) → Combines S d rows cs x → i < length rows → get_or x (get_or r.pivots i 0) 0 ≡ get_or cs i 0
  coefficient_is_entry cs x i c l =
      let p = get_or r.pivots i 0 in
      let a_in : IsScalar S (get_or cs i 0) = All-get_or (IsScalar S) cs i 0 (let e = c.one_each.length_is in omega arith) c.one_each.entries in
      ap (λ v. get_or v p 0) (sym c.gives)
      ∙ only_entry S F d p (pivot_within i l) cs rows i c.one_each.entries r.vectors c.one_each.length_is l (λ j m n. r.reduced.alone i j l m (λ e. n (sym e)))
      ∙ ap (S.product (get_or cs i 0)) (r.reduced.one i l) ∙ F.product-one (get_or cs i 0) a_in

  pub reduced_independent : IsIndependent S d rows
  reduced_independent cs c = same_number_lists cs (zero_vector S (length rows)) (c.one_each.length_is ∙ sym (length-replicate (length rows) S.zero))
      (λ i l. let k : i < length rows = (let e = c.one_each.length_is in omega arith) in
      sym (coefficient_is_entry cs (zero_vector S d) i c k) ∙ get_or-replicate d (get_or r.pivots i 0) S.zero 0 (pivot_within i k) ∙ sym (get_or-replicate (length rows) i S.zero 0 k))

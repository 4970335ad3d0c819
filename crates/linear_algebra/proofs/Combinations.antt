-- Combinations are vectors, and linear in the coefficients.
use Rattle.std.proofs.Common.{◌≡◌, ℕ, zero, suc, List, [], ◌∷◌, ◌++◌, length, map, refl, sym, ap, ap₂, ◌∙◌, subst, append-nil, append_assoc, All}
use Rattle.std.proofs.lemmas.List.{length-map, map-append}
use Rattle.std.proofs.lemmas.List.Elements.{All-head, All-tail, All-append, All-push, All-weaker}
use Rattle.vector_spaces.proofs.Combination.{combination as combination_of, coefficient_sum, combination-sum as sum_law, combination-scale as scale_law, combination-append as append_law, combination-push_zero as push_zero_law}
use Rattle.linear_algebra.specs.Scalars.{Scalars, IsScalar, IsField}
use Rattle.linear_algebra.specs.Vectors.{IsVector, AreVectors, zero_vector, vector_sum, multiple}
use Rattle.linear_algebra.specs.Spans.{combination, InSpan}
use Rattle.linear_algebra.proofs.Elements.{scalar_field}
use Rattle.linear_algebra.proofs.Coordinates.{list, tuple, element, element-number, element-sum, element-product, element-zero, list-vector, list-plus, list-scale, space}
use Rattle.linear_algebra.proofs.Transfer.{tuples_of, combination_tuples}
use Rattle.linear_algebra.proofs.VectorLaws.{vector_sum-vector, multiple-vector}

module _ (S : Scalars) (F : IsField S) where
  elements-sum : (cs ds : List ℕ) → All (IsScalar S) cs → All (IsScalar S) ds → map (element S F) (vector_sum S cs ds) ≡ coefficient_sum (scalar_field S F) (map (element S F) cs) (map (element S F) ds)
  unfolding vector_sum
  elements-sum [] ds h k = refl
  elements-sum (c ∷ cs) [] h k = refl
  elements-sum (c ∷ cs) (d ∷ ds) h k =
      ap₂ (λ x y. x ∷ y) (element-sum S F c d (All-head (IsScalar S) c cs h) (All-head (IsScalar S) d ds k)) (elements-sum cs ds (All-tail (IsScalar S) c cs h) (All-tail (IsScalar S) d ds k))

  elements-multiple : (a : ℕ) (cs : List ℕ) → IsScalar S a → All (IsScalar S) cs → map (element S F) (multiple S a cs) ≡ map (λ c. (scalar_field S F).◌⊠◌ (element S F a) c) (map (element S F) cs)
  elements-multiple a [] h k = refl
  elements-multiple a (c ∷ cs) h k =
      ap₂ (λ x y. x ∷ y) (element-product S F a c h (All-head (IsScalar S) c cs k)) (elements-multiple a cs h (All-tail (IsScalar S) c cs k))

  module _ (d : ℕ) where
    pub combination-vector : (cs : List ℕ) (vs : List (List ℕ)) → All (IsScalar S) cs → AreVectors S d vs → IsVector S d (combination S d cs vs)
    combination-vector cs vs h k = subst (IsVector S d) (combination_tuples S F d cs vs h k) (list-vector S d (combination_of (space S F d) (map (element S F) cs) (tuples_of S F d vs)))

    pub combination-sum : (n : ℕ) (cs ds : List ℕ) (vs : List (List ℕ)) → IsVector S n cs → IsVector S n ds → AreVectors S d vs → combination S d (vector_sum S cs ds) vs ≡ vector_sum S (combination S d cs vs) (combination S d ds vs)
    combination-sum n cs ds vs h k l =
        sym (combination_tuples S F d (vector_sum S cs ds) vs (vector_sum-vector S F n cs ds h k).entries l)
        ∙ ap (list S d) (rw (elements-sum cs ds h.entries k.entries) (sum_law (scalar_field S F) (space S F d) (map (element S F) cs) (map (element S F) ds) (tuples_of S F d vs) (simp length-map (h.length_is ∙ sym k.length_is))))
        ∙ list-plus S F d _ _ ∙ ap₂ (vector_sum S) (combination_tuples S F d cs vs h.entries l) (combination_tuples S F d ds vs k.entries l)

    pub combination-multiple : (n a : ℕ) (cs : List ℕ) (vs : List (List ℕ)) → IsScalar S a → IsVector S n cs → AreVectors S d vs → combination S d (multiple S a cs) vs ≡ multiple S a (combination S d cs vs)
    combination-multiple n a cs vs h k l =
        sym (combination_tuples S F d (multiple S a cs) vs (multiple-vector S F n a cs h k).entries l)
        ∙ ap (list S d) (rw (elements-multiple a cs h k.entries) (scale_law (scalar_field S F) (space S F d) (element S F a) (map (element S F) cs) (tuples_of S F d vs)))
        ∙ list-scale S F d (element S F a) (combination_of (space S F d) (map (element S F) cs) (tuples_of S F d vs)) ∙ ap₂ (multiple S) (element-number S F a h) (combination_tuples S F d cs vs k.entries l)

    pub combination-append : (cs ds : List ℕ) (vs ws : List (List ℕ)) → IsVector S (length vs) cs → All (IsScalar S) ds → AreVectors S d vs → AreVectors S d ws →
        combination S d (cs ++ ds) (vs ++ ws) ≡ vector_sum S (combination S d cs vs) (combination S d ds ws)
    combination-append cs ds vs ws h k l m =
        sym (combination_tuples S F d (cs ++ ds) (vs ++ ws) (All-append (IsScalar S) cs ds h.entries k) (All-append (IsVector S d) vs ws l m))
        ∙ ap (list S d) (rw (map-append (element S F) cs ds, map-append (tuple S F d) vs ws)
        (append_law (scalar_field S F) (space S F d) (map (element S F) cs) (map (element S F) ds) (tuples_of S F d vs) (tuples_of S F d ws) (simp length-map h.length_is)))
        ∙ list-plus S F d _ _ ∙ ap₂ (vector_sum S) (combination_tuples S F d cs vs h.entries l) (combination_tuples S F d ds ws k m)

    -- a last coefficient that is zero
    pub combination-push_zero : (cs : List ℕ) (vs : List (List ℕ)) → All (IsScalar S) cs → AreVectors S d vs → combination S d (cs ++ S.zero ∷ []) vs ≡ combination S d cs vs
    combination-push_zero cs vs h k =
        sym (combination_tuples S F d (cs ++ S.zero ∷ []) vs (All-push (IsScalar S) cs S.zero h F.zero_in) k)
        ∙ ap (list S d) (ap (λ ks. combination_of (space S F d) ks (tuples_of S F d vs)) (map-append (element S F) cs (S.zero ∷ []) ∙ ap (λ z. map (element S F) cs ++ z ∷ []) (element-zero S F)) ∙ push_zero_law (scalar_field S F) (space S F d) (map (element S F) cs) (tuples_of S F d vs))
        ∙ combination_tuples S F d cs vs h k

    -- last coefficients that are zero
    pub combination-push_zeros : (n : ℕ) (cs : List ℕ) (vs : List (List ℕ)) → All (IsScalar S) cs → AreVectors S d vs → combination S d (cs ++ zero_vector S n) vs ≡ combination S d cs vs
    combination-push_zeros zero cs vs h k = ap (λ ds. combination S d ds vs) (append-nil cs)
    combination-push_zeros (suc n) cs vs h k =
        ap (λ ds. combination S d ds vs) (sym (append_assoc cs (S.zero ∷ []) (zero_vector S n)))
        ∙ combination-push_zeros n (cs ++ S.zero ∷ []) vs (All-push (IsScalar S) cs S.zero h F.zero_in) k
        ∙ combination-push_zero cs vs h k

    -- what is in the span of vectors is a vector
    pub span_vector : (vs : List (List ℕ)) (x : List ℕ) → AreVectors S d vs → InSpan S d vs x → IsVector S d x
    span_vector vs x h c = subst (IsVector S d) c.combine.gives (combination-vector c.coefficients vs c.combine.one_each.entries h)

    pub spanned_vectors : (vs us : List (List ℕ)) → AreVectors S d vs → All (InSpan S d vs) us → AreVectors S d us
    spanned_vectors vs us h k = All-weaker (InSpan S d vs) (IsVector S d) (λ x. span_vector vs x h) us k

-- Spans and independent lists of vectors are those of the space of tuples.
use Rattle.std.proofs.Common.{◌≡◌, ℕ, zero, suc, List, [], ◌∷◌, length, map, replicate, refl, sym, ap, ap₂, ◌∙◌, subst, All}
use Rattle.std.proofs.lemmas.List.{length-map}
use Rattle.std.proofs.lemmas.List.Elements.{All-nil, All-cons, All-head, All-tail}
use Rattle.vector_spaces.proofs.Tuples.{Tuple}
use Rattle.vector_spaces.proofs.Span.{InSpan as InSpan_of}
use Rattle.vector_spaces.proofs.Combination.{combination as combination_of, combination_of_span, span_of_combination, OnlyZerosCombine, independent_of, indep_of}
use Rattle.vector_spaces.proofs.Independence.{IsIndependent as IsIndependent_of}
use Rattle.linear_algebra.specs.Scalars.{Scalars, IsScalar, IsField}
use Rattle.linear_algebra.specs.Vectors.{IsVector, AreVectors, zero_vector}
use Rattle.linear_algebra.specs.Spans.{combination, InSpan, IsIndependent}
use Rattle.linear_algebra.proofs.Elements.{Element, scalar_field, zero_element}
use Rattle.linear_algebra.proofs.Coordinates.{number, list, tuple, element, element-number, element-of, list-tuple, tuple-list, space, list-combination, list-null}

pub numbers_in : (S : Scalars) (ks : List (Element S)) → All (IsScalar S) (map (number S) ks)
numbers_in S [] = All-nil (IsScalar S)
numbers_in S (k ∷ ks) = All-cons (IsScalar S) k.0 (map (number S) ks) k.1 (numbers_in S ks)

module _ (S : Scalars) (F : IsField S) where
  pub numbers-elements : (cs : List ℕ) → All (IsScalar S) cs → map (number S) (map (element S F) cs) ≡ cs
  numbers-elements [] h = refl
  numbers-elements (c ∷ cs) h = ap₂ (λ x y. x ∷ y) (element-number S F c (All-head (IsScalar S) c cs h)) (numbers-elements cs (All-tail (IsScalar S) c cs h))

  pub elements-numbers : (ks : List (Element S)) → map (element S F) (map (number S) ks) ≡ ks
  elements-numbers [] = refl
  elements-numbers (k ∷ ks) = ap₂ (λ x y. x ∷ y) (element-of S F k) (elements-numbers ks)

  pub numbers-zeros : (n : ℕ) → map (number S) (replicate n (zero_element S F)) ≡ zero_vector S n
  unfolding zero_element
  numbers-zeros zero = refl
  numbers-zeros (suc n) = ap (λ cs. S.zero ∷ cs) (numbers-zeros n)

  module _ (d : ℕ) where
    abbrev pub tuples_of : List (List ℕ) → List (Tuple (Element S) d)
    tuples_of vs = map (tuple S F d) vs

    pub lists-tuples : (vs : List (List ℕ)) → AreVectors S d vs → map (list S d) (tuples_of vs) ≡ vs
    lists-tuples [] h = refl
    lists-tuples (v ∷ vs) h = ap₂ (λ x y. x ∷ y) (list-tuple S F d v (All-head (IsVector S d) v vs h)) (lists-tuples vs (All-tail (IsVector S d) v vs h))

    -- the combination of the tuples, read as a list
    pub combination_tuples : (cs : List ℕ) (vs : List (List ℕ)) → All (IsScalar S) cs → AreVectors S d vs → list S d (combination_of (space S F d) (map (element S F) cs) (tuples_of vs)) ≡ combination S d cs vs
    combination_tuples cs vs h k = list-combination S F d (map (element S F) cs) (tuples_of vs) ∙ ap₂ (combination S d) (numbers-elements cs h) (lists-tuples vs k)

    pub span_to_tuples : (vs : List (List ℕ)) (x : List ℕ) → AreVectors S d vs → InSpan S d vs x → InSpan_of (space S F d) (tuples_of vs) (tuple S F d x)
    span_to_tuples vs x k h = subst (λ t. InSpan_of (space S F d) (tuples_of vs) t)
        (sym (tuple-list S F d _) ∙ ap (tuple S F d) (combination_tuples h.coefficients vs h.combine.one_each.entries k ∙ h.combine.gives))
        (span_of_combination (scalar_field S F) (space S F d) (map (element S F) h.coefficients) (tuples_of vs))

    pub span_from_tuples : (vs : List (List ℕ)) (x : List ℕ) → AreVectors S d vs → IsVector S d x → InSpan_of (space S F d) (tuples_of vs) (tuple S F d x) → InSpan S d vs x
    span_from_tuples vs x k l h =
        let r = combination_of_span (scalar_field S F) (space S F d) (tuples_of vs) (tuple S F d x) h in
        let cs : List ℕ = map (number S) r.0 in
        record {
          coefficients = cs;
          combine = record {
            one_each = record { length_is = length-map r.0 (number S) ∙ r.1 ∙ length-map vs (tuple S F d); entries = numbers_in S r.0 };
            gives = ap (combination S d cs) (sym (lists-tuples vs k)) ∙ sym (list-combination S F d r.0 (tuples_of vs)) ∙ ap (list S d) r.2 ∙ list-tuple S F d x l;
          };
        }

    pub independent_to_tuples : (vs : List (List ℕ)) → AreVectors S d vs → IsIndependent S d vs → IsIndependent_of (space S F d) (tuples_of vs)
    unfolding scalar_field
    independent_to_tuples vs k h = indep_of (scalar_field S F) (space S F d) [] (tuples_of vs) go
      where
        go : OnlyZerosCombine (space S F d) [] (tuples_of vs)
        go ks e z =
            let cs : List ℕ = map (number S) ks in
            let zeros : cs ≡ zero_vector S (length vs) = h cs (record {
              one_each = record { length_is = length-map ks (number S) ∙ e ∙ length-map vs (tuple S F d); entries = numbers_in S ks };
              gives = ap (combination S d cs) (sym (lists-tuples vs k)) ∙ sym (list-combination S F d ks (tuples_of vs)) ∙ ap (list S d) z ∙ list-null S F d;
            }) in
            sym (elements-numbers ks) ∙ ap (map (element S F)) (zeros ∙ sym (numbers-zeros (length vs))) ∙ elements-numbers (replicate (length vs) (zero_element S F)) ∙ ap (λ n. replicate n (zero_element S F)) (sym (length-map vs (tuple S F d)))

    pub independent_from_tuples : (vs : List (List ℕ)) → AreVectors S d vs → IsIndependent_of (space S F d) (tuples_of vs) → IsIndependent S d vs
    unfolding scalar_field
    independent_from_tuples vs k h cs z =
        let ks : List (Element S) = map (element S F) cs in
        let in_scalars = z.one_each.entries in
        let zeros : ks ≡ replicate (length (tuples_of vs)) (zero_element S F) = independent_of (scalar_field S F) (space S F d) [] (tuples_of vs) h ks
        (length-map cs (element S F) ∙ z.one_each.length_is ∙ sym (length-map vs (tuple S F d)))
        (sym (tuple-list S F d _) ∙ ap (tuple S F d) (combination_tuples cs vs in_scalars k ∙ z.gives ∙ sym (list-null S F d)) ∙ tuple-list S F d _) in
        sym (numbers-elements cs in_scalars) ∙ ap (map (number S)) (zeros ∙ ap (λ n. replicate n (zero_element S F)) (length-map vs (tuple S F d))) ∙ numbers-zeros (length vs)

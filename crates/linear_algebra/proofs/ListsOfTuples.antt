-- Tuples as lists of numbers: lists of them, their spans and independence, from the side of the tuples.
use Rattle.std.proofs.Common.{◌≡◌, ℕ, zero, suc, List, [], ◌∷◌, map, refl, sym, ap, ap₂, subst}
use Rattle.std.proofs.lemmas.List.Elements.{All-cons, All-nil}
use Rattle.linear_algebra.proofs.Coordinates.{list, list-vector, space, tuple, tuple-list}
use Rattle.linear_algebra.proofs.Elements.{Element, scalar_field, zero_element}
use Rattle.linear_algebra.proofs.Transfer.{independent_from_tuples, span_from_tuples, span_to_tuples, tuples_of}
use Rattle.linear_algebra.specs.Scalars.{IsField, Scalars}
use Rattle.linear_algebra.specs.Spans.{InSpan, IsIndependent}
use Rattle.linear_algebra.specs.Vectors.{AreVectors, IsVector}
use Rattle.vector_spaces.proofs.Independence.{IsIndependent as IsIndependent_of}
use Rattle.vector_spaces.proofs.Members.{In, In-all, In-map, In_map-from}
use Rattle.vector_spaces.proofs.Space.{Space}
use Rattle.vector_spaces.proofs.Span.{InSpan as InSpan_of, span_member}
use Rattle.vector_spaces.proofs.Tuples.{Tuple}
use Rattle.vector_spaces.proofs.Within.{Within}

module _ (S : Scalars) (F : IsField S) where
  -- the empty list counts as null
  pub tuple-nil : (d : ℕ) → tuple S F d [] ≡ (space S F d).null
  unfolding tuple scalar_field
  tuple-nil zero = refl
  tuple-nil (suc d) = ap (λ t. (zero_element S F, t)) (tuple-nil d)

  module _ (d : ℕ) where
    abbrev sp : Space (scalar_field S F) (Tuple (Element S) d)
    sp = space S F d

    pub tuples-lists : (vs : List (Tuple (Element S) d)) → tuples_of S F d (map (list S d) vs) ≡ vs
    tuples-lists [] = refl
    tuples-lists (v ∷ vs) = ap₂ (λ x xs. x ∷ xs) (tuple-list S F d v) (tuples-lists vs)

    pub lists-vectors : (vs : List (Tuple (Element S) d)) → AreVectors S d (map (list S d) vs)
    lists-vectors [] = All-nil (IsVector S d)
    lists-vectors (v ∷ vs) = All-cons (IsVector S d) (list S d v) (map (list S d) vs) (list-vector S d v) (lists-vectors vs)

    pub independent_lists : (vs : List (Tuple (Element S) d)) → IsIndependent_of sp vs → IsIndependent S d (map (list S d) vs)
    independent_lists vs i =
        independent_from_tuples S F d (map (list S d) vs) (lists-vectors vs)
        (subst (λ xs. IsIndependent_of sp xs) (sym (tuples-lists vs)) i)

    -- the spans of tuples
    pub span_to_lists : (vs : List (Tuple (Element S) d)) (x : List ℕ) → IsVector S d x → InSpan_of sp vs (tuple S F d x) →
        InSpan S d (map (list S d) vs) x
    span_to_lists vs x a h = span_from_tuples S F d (map (list S d) vs) x (lists-vectors vs) a
        (subst (λ xs. InSpan_of sp xs (tuple S F d x)) (sym (tuples-lists vs)) h)

    pub span_from_lists : (vs : List (Tuple (Element S) d)) (x : List ℕ) → InSpan S d (map (list S d) vs) x →
        InSpan_of sp vs (tuple S F d x)
    span_from_lists vs x h = subst (λ xs. InSpan_of sp xs (tuple S F d x)) (tuples-lists vs)
        (span_to_tuples S F d (map (list S d) vs) x (lists-vectors vs) h)

    -- a tuple in the span of vectors
    pub spanned_list : (us : List (List ℕ)) (v : Tuple (Element S) d) → AreVectors S d us → InSpan_of sp (tuples_of S F d us) v →
        InSpan S d us (list S d v)
    spanned_list us v a h =
        span_from_tuples S F d us (list S d v) a (list-vector S d v)
        (subst (λ t. InSpan_of sp (tuples_of S F d us) t) (sym (tuple-list S F d v)) h)

    pub spanned_tuple : (us : List (List ℕ)) (v : Tuple (Element S) d) → AreVectors S d us → InSpan S d us (list S d v) →
        InSpan_of sp (tuples_of S F d us) v
    spanned_tuple us v a h = subst (λ t. InSpan_of sp (tuples_of S F d us) t) (tuple-list S F d v)
        (span_to_tuples S F d us (list S d v) a h)

    -- vectors whose span lies in that of others
    pub within_tuples : (us vs : List (List ℕ)) → AreVectors S d us → AreVectors S d vs →
        ((x : List ℕ) → InSpan S d us x → InSpan S d vs x) →
        Within sp (tuples_of S F d us) (tuples_of S F d vs)
    within_tuples us vs a b h = record {
      each = λ v j. let o = In_map-from (tuple S F d) v us j in
          subst (λ t. InSpan_of sp (tuples_of S F d vs) t) (sym o.2) (span_to_tuples S F d vs o.0 b (h o.0 (spanned o.0 o.1)));
    }
      where
        spanned : (x : List ℕ) → In x us → InSpan S d us x
        spanned x j = span_from_tuples S F d us x a (In-all (IsVector S d) us a x j)
            (span_member (scalar_field S F) sp (tuples_of S F d us) (tuple S F d x) (In-map (tuple S F d) x us j))

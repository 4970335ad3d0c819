-- Independent lists of vectors.
use Rattle.std.proofs.Common.{◌≡◌, ℕ, ◌≤◌, List, [], ◌∷◌, ◌++◌, length, map, sym, ap, ◌∙◌, subst, arith, All}
use Rattle.std.proofs.lemmas.List.{length-map, map-append}
use Rattle.std.proofs.lemmas.List.Elements.{All-append, All-cons, All-nil}
use Rattle.vector_spaces.proofs.Members.{In-map, In-all, all-In}
use Rattle.vector_spaces.proofs.Uniqueness.{unique_coefficients as unique_law}
use Rattle.vector_spaces.proofs.Independence.{IsIndependent as IsIndependent_of, counting_bound, same_length_independent as independent_law, same_length_spans as spans_law, append_outside, appended_is_outside, independent_left as left_law, independent_right as right_law}
use Rattle.linear_algebra.specs.Scalars.{Scalars, IsField}
use Rattle.linear_algebra.specs.Vectors.{IsVector, AreVectors}
use Rattle.linear_algebra.specs.Spans.{Combines, InSpan, IsIndependent}
use Rattle.linear_algebra.proofs.Elements.{scalar_field}
use Rattle.linear_algebra.proofs.Coordinates.{number, element, tuple, tuple-list, space}
use Rattle.linear_algebra.proofs.Transfer.{numbers-elements, tuples_of, combination_tuples, span_to_tuples, span_from_tuples, independent_to_tuples, independent_from_tuples}
use Rattle.linear_algebra.proofs.SpanLaws.{within_tuples}

module _ (S : Scalars) (F : IsField S) (d : ℕ) where
  -- the exchange lemma: an independent list in the span of another is not longer
  pub independent_no_longer : (us vs : List (List ℕ)) → AreVectors S d us → AreVectors S d vs → IsIndependent S d us → All (InSpan S d vs) us → length us ≤ length vs
  independent_no_longer us vs h k i a =
      let l = counting_bound (space S F d) (tuples_of S F d us) (tuples_of S F d vs) (independent_to_tuples S F d us h i) (within_tuples S F d us vs k a) in
      let e = length-map us (tuple S F d) in
      let f = length-map vs (tuple S F d) in
      omega arith

  same_length : (us vs : List (List ℕ)) → length vs ≤ length us → length (tuples_of S F d vs) ≤ length (tuples_of S F d us)
  same_length us vs h = let e = length-map us (tuple S F d) in let f = length-map vs (tuple S F d) in omega arith

  -- and where it is as long, the other is independent and in its span
  pub same_length_independent : (us vs : List (List ℕ)) → AreVectors S d us → AreVectors S d vs → IsIndependent S d us → All (InSpan S d vs) us → length vs ≤ length us → IsIndependent S d vs
  same_length_independent us vs h k i a l = independent_from_tuples S F d vs k
      (independent_law (space S F d) (tuples_of S F d us) (tuples_of S F d vs) (independent_to_tuples S F d us h i) (within_tuples S F d us vs k a) (same_length us vs l))

  pub same_length_spans : (us vs : List (List ℕ)) → AreVectors S d us → AreVectors S d vs → IsIndependent S d us → All (InSpan S d vs) us → length vs ≤ length us → All (InSpan S d us) vs
  same_length_spans us vs h k i a l =
      let w = spans_law (space S F d) (tuples_of S F d us) (tuples_of S F d vs) (independent_to_tuples S F d us h i) (within_tuples S F d us vs k a) (same_length us vs l) in
      all-In (InSpan S d us) vs (λ v j. span_from_tuples S F d us v h (In-all (IsVector S d) vs k v j) (w.each (tuple S F d v) (In-map (tuple S F d) v vs j)))

  pub independent_left : (us vs : List (List ℕ)) → AreVectors S d us → AreVectors S d vs → IsIndependent S d (us ++ vs) → IsIndependent S d us
  independent_left us vs h k i = independent_from_tuples S F d us h (left_law (space S F d) (tuples_of S F d us) (tuples_of S F d vs)
      (subst (IsIndependent_of (space S F d)) (map-append (tuple S F d) us vs) (independent_to_tuples S F d (us ++ vs) (All-append (IsVector S d) us vs h k) i)))

  pub independent_right : (us vs : List (List ℕ)) → AreVectors S d us → AreVectors S d vs → IsIndependent S d (us ++ vs) → IsIndependent S d vs
  independent_right us vs h k i = independent_from_tuples S F d vs k (right_law (space S F d) (tuples_of S F d us) (tuples_of S F d vs)
      (subst (IsIndependent_of (space S F d)) (map-append (tuple S F d) us vs) (independent_to_tuples S F d (us ++ vs) (All-append (IsVector S d) us vs h k) i)))

  one_vector : (v : List ℕ) → IsVector S d v → AreVectors S d (v ∷ [])
  one_vector v h = All-cons (IsVector S d) v [] h (All-nil (IsVector S d))

  -- one vector more, exactly where it is outside the span
  pub independent_push : (us : List (List ℕ)) (v : List ℕ) → AreVectors S d us → IsVector S d v → IsIndependent S d us → ¬ (InSpan S d us v) → IsIndependent S d (us ++ v ∷ [])
  independent_push us v h k i n = independent_from_tuples S F d (us ++ v ∷ []) (All-append (IsVector S d) us (v ∷ []) h (one_vector v k))
      (subst (IsIndependent_of (space S F d)) (sym (map-append (tuple S F d) us (v ∷ []))) (append_outside (space S F d) (tuples_of S F d us) (tuple S F d v) (independent_to_tuples S F d us h i) (λ c. n (span_from_tuples S F d us v h k c))))

  pub pushed_is_outside : (us : List (List ℕ)) (v : List ℕ) → AreVectors S d us → IsVector S d v → IsIndependent S d (us ++ v ∷ []) → ¬ (InSpan S d us v)
  pushed_is_outside us v h k i c = appended_is_outside (space S F d) (tuples_of S F d us) (tuple S F d v)
      (subst (IsIndependent_of (space S F d)) (map-append (tuple S F d) us (v ∷ [])) (independent_to_tuples S F d (us ++ v ∷ []) (All-append (IsVector S d) us (v ∷ []) h (one_vector v k)) i))
      (span_to_tuples S F d us v h c)

  -- coefficients over an independent list are unique
  pub unique_coefficients : (vs : List (List ℕ)) (x cs ds : List ℕ) → AreVectors S d vs → IsIndependent S d vs → Combines S d vs cs x → Combines S d vs ds x → cs ≡ ds
  unique_coefficients vs x cs ds h i p q =
      let same : map (element S F) cs ≡ map (element S F) ds =
      unique_law (scalar_field S F) (space S F d) (tuples_of S F d vs) (map (element S F) cs) (map (element S F) ds) (independent_to_tuples S F d vs h i) (as_many cs p) (as_many ds q)
      (sym (tuple-list S F d _) ∙ ap (tuple S F d) (combination_tuples S F d cs vs p.one_each.entries h ∙ p.gives ∙ sym (combination_tuples S F d ds vs q.one_each.entries h ∙ q.gives)) ∙ tuple-list S F d _) in
      sym (numbers-elements S F cs p.one_each.entries) ∙ ap (map (number S)) same ∙ numbers-elements S F ds q.one_each.entries
    where
      as_many : (ks : List ℕ) → Combines S d vs ks x → length (map (element S F) ks) ≡ length (tuples_of S F d vs)
      as_many ks r = length-map ks (element S F) ∙ r.one_each.length_is ∙ sym (length-map vs (tuple S F d))

-- The rank of appends, and its bounds.
use Rattle.std.proofs.Common.{◌≡◌, ℕ, ◌+◌, ◌-◌, ◌≤◌, le_antisymm, List, [], ◌++◌, length, sym, ap, ap₂, ◌∙◌, arith, append-nil, All}
use Rattle.std.proofs.lemmas.List.{length-map, map-append}
use Rattle.std.proofs.lemmas.List.Elements.{All-append, All-nil}
use Rattle.vector_spaces.proofs.Ranks.{rank-append as append_law, rank_le_length as length_law, rank_antitone, rank_monotone, rank_of_independent as independent_law, independent_of_rank as rank_law}
use Rattle.vector_spaces.proofs.Tuples.{Tuple}
use Rattle.vector_spaces.proofs.Span.{InSpan as InSpan_of, span_closure, span_through}
use Rattle.linear_algebra.specs.Scalars.{Scalars, IsField}
use Rattle.linear_algebra.specs.Vectors.{IsVector, AreVectors}
use Rattle.linear_algebra.specs.Spans.{InSpan, IsIndependent}
use Rattle.linear_algebra.specs.Ranks.{rank, rank_over}
use Rattle.linear_algebra.proofs.Elements.{Element, scalar_field}
use Rattle.linear_algebra.proofs.Coordinates.{tuple, space}
use Rattle.linear_algebra.proofs.Transfer.{tuples_of, independent_to_tuples, independent_from_tuples}
use Rattle.linear_algebra.proofs.Ranks.{rank_of_tuples, rank-tuples}
use Rattle.linear_algebra.proofs.SpanLaws.{within_tuples, span_append_left, span_append_right, span_member}
use Rattle.vector_spaces.proofs.Members.{all-In, In-all}

module _ (S : Scalars) (F : IsField S) (d : ℕ) where
  -- the rank of the tuples of an append
  rank-append_tuples : (us vs : List (List ℕ)) → AreVectors S d us → AreVectors S d vs → rank S d (us ++ vs) ≡ rank S d us + rank_of_tuples S F d (tuples_of S F d us) (tuples_of S F d vs)
  rank-append_tuples us vs h k =
      rank-tuples S F d (us ++ vs) (All-append (IsVector S d) us vs h k)
      ∙ ap (rank_of_tuples S F d []) (map-append (tuple S F d) us vs)
      ∙ append_law (Tuple (Element S) d) (InSpan_of (space S F d)) (span_closure (scalar_field S F) (space S F d)) [] (tuples_of S F d us) (tuples_of S F d vs)
      ∙ ap₂ (λ a b. a + b) (sym (rank-tuples S F d us h)) (ap (λ ts. rank_of_tuples S F d ts (tuples_of S F d vs)) (append-nil (tuples_of S F d us)))

  -- the rank that vs adds to us is that of the tuples over those of us
  pub rank_over-tuples : (us vs : List (List ℕ)) → AreVectors S d us → AreVectors S d vs → rank_over S d us vs ≡ rank_of_tuples S F d (tuples_of S F d us) (tuples_of S F d vs)
  rank_over-tuples us vs h k = let e = rank-append_tuples us vs h k in omega arith

  pub rank-append : (us vs : List (List ℕ)) → AreVectors S d us → AreVectors S d vs → rank S d (us ++ vs) ≡ rank S d us + rank_over S d us vs
  rank-append us vs h k = let e = rank-append_tuples us vs h k in omega arith

  pub rank_le_length : (vs : List (List ℕ)) → AreVectors S d vs → rank S d vs ≤ length vs
  rank_le_length vs h =
      let e = rank-tuples S F d vs h in
      let l = length_law (Tuple (Element S) d) (InSpan_of (space S F d)) (span_closure (scalar_field S F) (space S F d)) [] (tuples_of S F d vs) in
      let m = length-map vs (tuple S F d) in
      omega arith

  -- a list in the span of another has no greater rank
  pub rank_le : (us vs : List (List ℕ)) → AreVectors S d us → AreVectors S d vs → All (InSpan S d vs) us → rank S d us ≤ rank S d vs
  rank_le us vs h k a =
      let e = rank-tuples S F d us h in
      let f = rank-tuples S F d vs k in
      let w = within_tuples S F d us vs k a in
      let l = rank_monotone (Tuple (Element S) d) (InSpan_of (space S F d)) (span_closure (scalar_field S F) (space S F d)) [] (tuples_of S F d us) (tuples_of S F d vs)
      (λ x c. rw append-nil (span_through (scalar_field S F) (space S F d) (tuples_of S F d us) (tuples_of S F d vs) x w.each c)) in
      omega arith

  pub rank_of_independent : (vs : List (List ℕ)) → AreVectors S d vs → IsIndependent S d vs → rank S d vs ≡ length vs
  rank_of_independent vs h i =
      rank-tuples S F d vs h
      ∙ independent_law (Tuple (Element S) d) (InSpan_of (space S F d)) (span_closure (scalar_field S F) (space S F d)) [] (tuples_of S F d vs) (independent_to_tuples S F d vs h i)
      ∙ length-map vs (tuple S F d)

  pub independent_of_rank : (vs : List (List ℕ)) → AreVectors S d vs → rank S d vs ≡ length vs → IsIndependent S d vs
  independent_of_rank vs h e = independent_from_tuples S F d vs h
      (rank_law (Tuple (Element S) d) (InSpan_of (space S F d)) (span_closure (scalar_field S F) (space S F d)) [] (tuples_of S F d vs) (sym (rank-tuples S F d vs h) ∙ e ∙ sym (length-map vs (tuple S F d))))

  -- lists in the span of each other have one rank
  pub rank_same : (us vs : List (List ℕ)) → AreVectors S d us → AreVectors S d vs → All (InSpan S d vs) us → All (InSpan S d us) vs → rank S d us ≡ rank S d vs
  rank_same us vs h k a b = le_antisymm (rank_le us vs h k a) (rank_le vs us k h b)

  -- appends of lists in the spans of others
  within-append : (us ws vs xs : List (List ℕ)) → AreVectors S d us → AreVectors S d ws → AreVectors S d vs → AreVectors S d xs → All (InSpan S d ws) us → All (InSpan S d xs) vs → All (InSpan S d (ws ++ xs)) (us ++ vs)
  within-append us ws vs xs h k l m a b =
      let all = All-append (IsVector S d) ws xs k m in
      All-append (InSpan S d (ws ++ xs)) us vs
      (all-In (InSpan S d (ws ++ xs)) us (λ x i. span_append_left S F d ws xs x all (In-all (IsVector S d) us h x i) (In-all (InSpan S d ws) us a x i)))
      (all-In (InSpan S d (ws ++ xs)) vs (λ x i. span_append_right S F d ws xs x all (In-all (IsVector S d) vs l x i) (In-all (InSpan S d xs) vs b x i)))

  pub spans_within : (us vs : List (List ℕ)) → AreVectors S d us → ((x : List ℕ) → InSpan S d us x → InSpan S d vs x) → All (InSpan S d vs) us
  spans_within us vs h e = all-In (InSpan S d vs) us (λ x i. e x (span_member S F d us x h i))

  within_itself : (vs : List (List ℕ)) → AreVectors S d vs → All (InSpan S d vs) vs
  within_itself vs h = spans_within vs vs h (λ x k. k)

  -- and lists in the span of each other add as much to such lists
  pub added_same : (us ws vs xs : List (List ℕ)) → AreVectors S d us → AreVectors S d ws → AreVectors S d vs → AreVectors S d xs
      → All (InSpan S d ws) us → All (InSpan S d us) ws → All (InSpan S d xs) vs → All (InSpan S d vs) xs → rank_over S d us vs ≡ rank_over S d ws xs
  added_same us ws vs xs h k l m a b c e =
      ap₂ (λ i j. i - j) (rank_same (us ++ vs) (ws ++ xs) (All-append (IsVector S d) us vs h l) (All-append (IsVector S d) ws xs k m) (within-append us ws vs xs h k l m a c) (within-append ws us xs vs k h m l b e)) (rank_same us ws h k a b)

  pub rank_over_same : (us ws vs : List (List ℕ)) → AreVectors S d us → AreVectors S d ws → AreVectors S d vs → All (InSpan S d ws) us → All (InSpan S d us) ws → rank_over S d us vs ≡ rank_over S d ws vs
  rank_over_same us ws vs h k l a b = added_same us ws vs vs h k l l a b (within_itself vs l) (within_itself vs l)

  -- less is added to a list that spans more
  pub rank_over_less : (us ws vs : List (List ℕ)) → AreVectors S d us → AreVectors S d ws → AreVectors S d vs → All (InSpan S d ws) us → rank_over S d ws vs ≤ rank_over S d us vs
  rank_over_less us ws vs h k l a =
      let e = rank_over-tuples us vs h l in
      let f = rank_over-tuples ws vs k l in
      let w = within_tuples S F d us ws k a in
      let less = rank_antitone (Tuple (Element S) d) (InSpan_of (space S F d)) (span_closure (scalar_field S F) (space S F d)) (tuples_of S F d us) (tuples_of S F d ws) (tuples_of S F d vs)
      (λ x c. span_through (scalar_field S F) (space S F d) (tuples_of S F d us) (tuples_of S F d ws) x w.each c) in
      omega arith

  -- the rank of an append is at most the sum
  pub rank-append_le : (us vs : List (List ℕ)) → AreVectors S d us → AreVectors S d vs → rank S d (us ++ vs) ≤ rank S d us + rank S d vs
  rank-append_le us vs h k =
      let e = rank-append us vs h k in
      let l = rank_over_less [] us vs (All-nil (IsVector S d)) h k (All-nil (InSpan S d us)) in
      omega arith

  -- no more is added than there are vectors
  pub rank_over_le_length : (us vs : List (List ℕ)) → AreVectors S d us → AreVectors S d vs → rank_over S d us vs ≤ length vs
  rank_over_le_length us vs h k =
      let e = rank_over-tuples us vs h k in
      let l = length_law (Tuple (Element S) d) (InSpan_of (space S F d)) (span_closure (scalar_field S F) (space S F d)) (tuples_of S F d us) (tuples_of S F d vs) in
      let m = length-map vs (tuple S F d) in
      omega arith

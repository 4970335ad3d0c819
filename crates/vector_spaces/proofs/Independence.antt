-- Independent lists: counted against a span, appended, reordered and thinned out.
use Rattle.std.proofs.Common.{◌≡◌, ◌+◌, ◌≤◌, ◌⊎◌, inl, inr, List, [], ◌∷◌, ◌++◌, length, sym, subst, arith, append-nil}
use Rattle.std.proofs.lemmas.List.{length-append}
use Rattle.vector_spaces.proofs.Closure.{IsIndependentOver, steinitz}
use Rattle.vector_spaces.proofs.Members.{In}
use Rattle.vector_spaces.proofs.Ranks.{rank, rank_most, rank_le_length, rank-append, rank_of_independent, independent_of_rank, independent_weaker, independent_cons, outside_of_independent}
use Rattle.vector_spaces.proofs.Space.{Field, Space}
use Rattle.vector_spaces.proofs.Span.{InSpan, span_closure, span_more, decide_span}
use Rattle.vector_spaces.proofs.Sublists.{IsSublist}
use Rattle.vector_spaces.proofs.Within.{Within, within_nil, within_append, within_members, through}

-- each is outside the span of those before it
abbrev pub IsIndependent : {K V : Type 0} {f : Field K} → Space f V → List V → Type 0
IsIndependent s vs = IsIndependentOver (InSpan s) [] vs

module _ {K V : Type 0} {f : Field K} (s : Space f V) where
  pub counting_bound : (us vs : List V) → IsIndependent s us → Within s us vs → length us ≤ length vs
  counting_bound us vs i h = steinitz V (InSpan s) (span_closure f s) us [] vs i (λ v j. rw (append-nil vs) (h.each v j))

  pub same_length_independent : (us vs : List V) → IsIndependent s us → Within s us vs → length vs ≤ length us → IsIndependent s vs
  same_length_independent us vs i h e =
      let k : length us ≤ rank V (InSpan s) (span_closure f s) [] vs = rank_most V (InSpan s) (span_closure f s) [] vs us i (λ v j. rw (append-nil vs) (h.each v j)) in
      let l : rank V (InSpan s) (span_closure f s) [] vs ≤ length vs = rank_le_length V (InSpan s) (span_closure f s) [] vs in
      independent_of_rank V (InSpan s) (span_closure f s) [] vs (omega arith)

  -- independence of an append, one part over the other
  pub independent_append : (us vs : List V) → IsIndependent s us → IsIndependentOver (InSpan s) us vs → IsIndependent s (us ++ vs)
  independent_append us vs i j =
      let k = rank-append V (InSpan s) (span_closure f s) [] us vs in
      let l = rank_of_independent V (InSpan s) (span_closure f s) [] us i in
      let r : rank V (InSpan s) (span_closure f s) (us ++ []) vs ≡ length vs = rw (append-nil us) (rank_of_independent V (InSpan s) (span_closure f s) us vs j) in
      let e : length (us ++ vs) ≡ length us + length vs = length-append us vs in
      independent_of_rank V (InSpan s) (span_closure f s) [] (us ++ vs) (omega arith)

  pub append_independent : (us vs : List V) → IsIndependent s (us ++ vs) → IsIndependent s us × IsIndependentOver (InSpan s) us vs
  append_independent us vs i =
      let k = rank-append V (InSpan s) (span_closure f s) [] us vs in
      let t = rank_of_independent V (InSpan s) (span_closure f s) [] (us ++ vs) i in
      let e : length (us ++ vs) ≡ length us + length vs = length-append us vs in
      let a = rank_le_length V (InSpan s) (span_closure f s) [] us in
      let b = rank_le_length V (InSpan s) (span_closure f s) (us ++ []) vs in (
        independent_of_rank V (InSpan s) (span_closure f s) [] us (omega arith),
        (let r : rank V (InSpan s) (span_closure f s) (us ++ []) vs ≡ length vs = omega arith in independent_of_rank V (InSpan s) (span_closure f s) us vs (rw (append-nil us) at r)),
      )

  pub append_outside : (us : List V) (v : V) → IsIndependent s us → ¬ (InSpan s us v) → IsIndependent s (us ++ v ∷ [])
  append_outside us v i n = independent_append us (v ∷ []) i (n, tt)

  pub appended_is_outside : (us : List V) (v : V) → IsIndependent s (us ++ v ∷ []) → ¬ (InSpan s us v)
  appended_is_outside us v i = (append_independent us (v ∷ []) i).1.0

  -- one vector more in front
  pub cons_outside : (v : V) (vs : List V) → ¬ (InSpan s vs v) → IsIndependent s vs → IsIndependent s (v ∷ vs)
  cons_outside v vs n i = independent_cons V (InSpan s) (span_closure f s) v vs n i

  pub head_is_outside : (v : V) (vs : List V) → IsIndependent s (v ∷ vs) → ¬ (InSpan s vs v)
  head_is_outside v vs i = outside_of_independent V (InSpan s) (span_closure f s) v vs i

  pub independent_left : (us vs : List V) → IsIndependent s (us ++ vs) → IsIndependent s us
  independent_left us vs i = (append_independent us vs i).0

  pub span_decidable : (us : List V) (v : V) → IsIndependent s us → InSpan s us v ⊎ IsIndependent s (us ++ v ∷ [])
  span_decidable us v i = go (decide_span f s us v)
    where
      go : Dec (InSpan s us v) → InSpan s us v ⊎ IsIndependent s (us ++ v ∷ [])
      go (yes c) = inl c
      go (no n) = inr (append_outside us v i n)

  pub same_length_spans : (us vs : List V) → IsIndependent s us → Within s us vs → length vs ≤ length us → Within s vs us
  same_length_spans us vs i h e = record { each = λ v j. go v j (span_decidable us v i) }
    where
      go : (v : V) → In v vs → InSpan s us v ⊎ IsIndependent s (us ++ v ∷ []) → InSpan s us v
      go v j (inl c) = c
      go v j (inr k) = absurd (
          let w : Within s (us ++ v ∷ []) vs = within_append s us (v ∷ []) vs h (within_members s (v ∷ []) vs (λ x t. elim t [ inl q ↦ subst (λ y. In y vs) (sym q) j | inr q ↦ absurd q ])) in
          let b : length (us ++ v ∷ []) ≤ length vs = counting_bound (us ++ v ∷ []) vs k w in
          let l : length (us ++ v ∷ []) ≡ length us + 1 = length-append us (v ∷ []) in
          omega arith)

  -- the same members, no longer: independent too, whatever the order
  pub regroup : (us vs : List V) → IsIndependent s us → ((v : V) → In v us → In v vs) → length vs ≤ length us → IsIndependent s vs
  regroup us vs i h e = same_length_independent us vs i (within_members s us vs h) e

  sub_over : (base us vs : List V) → IsIndependentOver (InSpan s) base vs → IsSublist us vs → IsIndependentOver (InSpan s) base us
  sub_over base us [] i e = subst (λ t. IsIndependentOver (InSpan s) base t) (sym e) tt
  sub_over base us (v ∷ vs) i (inl h) = independent_weaker V (InSpan s) (span_closure f s) base (v ∷ base) us (λ x c. span_more f s base v x c) (sub_over (v ∷ base) us vs i.1 h)
  sub_over base us (v ∷ vs) i (inr h) = subst (λ t. IsIndependentOver (InSpan s) base t) (sym h.1) (i.0, sub_over (v ∷ base) h.0 vs i.1 h.2)

  pub sublist_independent : (us vs : List V) → IsIndependent s vs → IsSublist us vs → IsIndependent s us
  sublist_independent us vs i h = sub_over [] us vs i h

  pub independent_right : (us vs : List V) → IsIndependent s (us ++ vs) → IsIndependent s vs
  independent_right us vs i = independent_weaker V (InSpan s) (span_closure f s) [] us vs (λ x c. through s [] us x (within_nil s us) c) (append_independent us vs i).1

-- The rank of a list over a base, for a closure with exchange: how many vectors a greedy walk keeps.
use Rattle.std.proofs.Common.{◌≡◌, ℕ, suc, ◌+◌, ◌≤◌, inl, inr, List, [], ◌∷◌, ◌++◌, length, refl, sym, ap, ◌∙◌, arith, le_antisymm, suc-add, append-nil}
use Rattle.vector_spaces.proofs.Closure.{IsClosure, IsIndependentOver, Spans, spans_of_sub, spans_left, spans_right, spans_cons, head_in, spans_tail, spans_front, spans_back, steinitz}
use Rattle.vector_spaces.proofs.Members.{In, In-append_left}
use Rattle.vector_spaces.proofs.Sublists.{IsSublist}

-- x where the fact holds, and y where it does not
abbrev pub choose : {A X : Type 0} → Dec A → X → X → X
choose (yes a) x y = x
choose (no n) x y = y

module _ (V : Type 0) (Cl : List V → V → Type 0) (m : IsClosure V Cl) where
  -- the greedy choice, over the base us
  pub basis : List V → List V → List V
  basis us [] = []
  basis us (v ∷ vs) = choose (m.decide us v) (basis us vs) (v ∷ basis (v ∷ us) vs)

  -- how many of vs the greedy choice keeps: the rank of vs over us
  pub rank : List V → List V → ℕ
  rank us vs = length (basis us vs)

  pub rank-length_basis : (us vs : List V) → rank us vs ≡ length (basis us vs)
  unfolding rank
  rank-length_basis us vs = refl

  pub rank-nil : (us : List V) → rank us [] ≡ 0
  unfolding rank basis
  rank-nil us = refl

  pub rank-inside : (us : List V) (v : V) (vs : List V) → Cl us v → rank us (v ∷ vs) ≡ rank us vs
  unfolding rank basis
  rank-inside us v vs c = elim (m.decide us v) as (λ d. length (choose d (basis us vs) (v ∷ basis (v ∷ us) vs)) ≡ length (basis us vs)) [ yes k ↦ refl | no n ↦ absurd (n c) ]

  pub rank-outside : (us : List V) (v : V) (vs : List V) → ¬ (Cl us v) → rank us (v ∷ vs) ≡ suc (rank (v ∷ us) vs)
  unfolding rank basis
  rank-outside us v vs n = elim (m.decide us v) as (λ d. length (choose d (basis us vs) (v ∷ basis (v ∷ us) vs)) ≡ suc (length (basis (v ∷ us) vs))) [ yes k ↦ absurd (n k) | no m ↦ refl ]

  pub basis_independent : (us vs : List V) → IsIndependentOver Cl us (basis us vs)
  unfolding basis
  basis_independent us [] = tt
  basis_independent us (v ∷ vs) =
      let old = basis_independent us vs in
      let new = basis_independent (v ∷ us) vs in
      elim (m.decide us v) as (λ d. IsIndependentOver Cl us (choose d (basis us vs) (v ∷ basis (v ∷ us) vs)))
      [ yes c ↦ old | no n ↦ (n, new) ]

  pub basis_inside : (us vs : List V) (x : V) → In x (basis us vs) → In x vs
  unfolding basis
  basis_inside us [] x = λ i. i
  basis_inside us (v ∷ vs) x =
      let old = basis_inside us vs x in
      let new = basis_inside (v ∷ us) vs x in
      elim (m.decide us v) as (λ d. In x (choose d (basis us vs) (v ∷ basis (v ∷ us) vs)) → In x (v ∷ vs))
      [ yes c ↦ λ i. inr (old i) | no n ↦ λ i. elim i [ inl e ↦ inl e | inr j ↦ inr (new j) ] ]

  pub basis_sublist : (us vs : List V) → IsSublist (basis us vs) vs
  unfolding basis
  basis_sublist us [] = refl
  basis_sublist us (v ∷ vs) =
      let old = basis_sublist us vs in
      let new = basis_sublist (v ∷ us) vs in
      elim (m.decide us v) as (λ d. IsSublist (choose d (basis us vs) (v ∷ basis (v ∷ us) vs)) (v ∷ vs))
      [ yes c ↦ inl old | no n ↦ inr (basis (v ∷ us) vs, refl, new) ]

  -- the choice reaches all that was chosen from
  pub basis_spans : (us vs : List V) → Spans V Cl m (basis us vs ++ us) (vs ++ us)
  unfolding basis
  basis_spans us [] = λ x c. c
  basis_spans us (v ∷ vs) =
      let old = basis_spans us vs in
      let new = basis_spans (v ∷ us) vs in
      elim (m.decide us v) as (λ d. Spans V Cl m (choose d (basis us vs) (v ∷ basis (v ∷ us) vs) ++ us) (v ∷ vs ++ us)) [
        | yes c ↦ spans_cons V Cl m (basis us vs ++ us) v (vs ++ us) (spans_right V Cl m (basis us vs) us v c) old
        | no n ↦ λ x c. spans_back V Cl m (basis (v ∷ us) vs) v us x (new x (spans_front V Cl m vs v us x c))
      ]

  pub rank_le_length : (us vs : List V) → rank us vs ≤ length vs
  unfolding rank basis
  rank_le_length us [] = omega arith
  rank_le_length us (v ∷ vs) =
      let old = rank_le_length us vs in
      let new = rank_le_length (v ∷ us) vs in
      elim (m.decide us v) as (λ d. length (choose d (basis us vs) (v ∷ basis (v ∷ us) vs)) ≤ suc (length vs)) [ yes c ↦ omega arith | no n ↦ omega arith ]

  pub rank_of_spanned : (us vs : List V) → ((v : V) → In v vs → Cl us v) → rank us vs ≡ 0
  rank_of_spanned us [] h = rank-nil us
  rank_of_spanned us (v ∷ vs) h = rank-inside us v vs (h v (inl refl)) ∙ rank_of_spanned us vs (λ x i. h x (inr i))

  -- a rank of 0 over us: all within the span of us
  pub spanned_of_rank : (us vs : List V) → rank us vs ≡ 0 → Spans V Cl m us vs
  spanned_of_rank us [] e = λ x c. spans_of_sub V Cl m us [] (λ v i. absurd i) x c
  spanned_of_rank us (v ∷ vs) e = go (m.decide us v) (spanned_of_rank us vs)
    where
      go : Dec (Cl us v) → (rank us vs ≡ 0 → Spans V Cl m us vs) → Spans V Cl m us (v ∷ vs)
      go (yes c) ih = spans_cons V Cl m us v vs c (ih (sym (rank-inside us v vs c) ∙ e))
      go (no n) ih = absurd (let k = rank-outside us v vs n in omega arith)

  -- no independent list inside the span of vs over us is longer than the rank
  pub rank_most : (us vs sel : List V) → IsIndependentOver Cl us sel → ((x : V) → In x sel → Cl (vs ++ us) x) → length sel ≤ rank us vs
  unfolding rank
  rank_most us vs sel i h = steinitz V Cl m sel us (basis us vs) i (λ x j. basis_spans us vs x (h x j))

  pub rank_of_independent : (us vs : List V) → IsIndependentOver Cl us vs → rank us vs ≡ length vs
  unfolding rank
  rank_of_independent us vs i = le_antisymm (rank_le_length us vs) (rank_most us vs vs i (λ x j. m.member (vs ++ us) x (In-append_left x vs us j)))

  pub independent_weaker : (us ws sel : List V) → Spans V Cl m ws us → IsIndependentOver Cl ws sel → IsIndependentOver Cl us sel
  independent_weaker us ws [] h i = tt
  independent_weaker us ws (v ∷ sel) h i = (
    λ c. i.0 (h v c),
    independent_weaker (v ∷ us) (v ∷ ws) sel
        (spans_cons V Cl m (v ∷ ws) v us (head_in V Cl m v ws) (λ x c. spans_tail V Cl m v ws x (h x c))) i.1,
  )

  -- fewer new directions over a larger base, more from a larger list
  pub rank_le : (us ws vs xs : List V) → Spans V Cl m ws us → Spans V Cl m (xs ++ us) vs → rank ws vs ≤ rank us xs
  unfolding rank
  rank_le us ws vs xs h k = rank_most us xs (basis ws vs)
      (independent_weaker us ws (basis ws vs) h (basis_independent ws vs))
      (λ x i. k x (m.member vs x (basis_inside ws vs x i)))

  pub rank_antitone : (us ws vs : List V) → Spans V Cl m ws us → rank ws vs ≤ rank us vs
  rank_antitone us ws vs h = rank_le us ws vs vs h (spans_left V Cl m vs us)

  pub rank_monotone : (us vs xs : List V) → Spans V Cl m (xs ++ us) vs → rank us vs ≤ rank us xs
  rank_monotone us vs xs k = rank_le us us vs xs (λ x c. c) k

  pub rank_same : (us ws vs : List V) → Spans V Cl m ws us → Spans V Cl m us ws → rank us vs ≡ rank ws vs
  rank_same us ws vs h k = le_antisymm (rank_antitone ws us vs k) (rank_antitone us ws vs h)

  -- the rank of an append: vs over us, and ws over both
  pub rank-append : (us vs ws : List V) → rank us (vs ++ ws) ≡ rank us vs + rank (vs ++ us) ws
  unfolding rank basis
  rank-append us [] ws = omega arith
  rank-append us (v ∷ vs) ws =
      let old = rank-append us vs ws in
      let new = rank-append (v ∷ us) vs ws in
      let same : Cl us v → rank (vs ++ us) ws ≡ rank (v ∷ vs ++ us) ws = λ c. rank_same (vs ++ us) (v ∷ vs ++ us) ws (spans_tail V Cl m v (vs ++ us)) (spans_cons V Cl m (vs ++ us) v (vs ++ us) (spans_right V Cl m vs us v c) (λ x k. k)) in
      let same' : rank (vs ++ v ∷ us) ws ≡ rank (v ∷ vs ++ us) ws = rank_same (vs ++ v ∷ us) (v ∷ vs ++ us) ws (spans_back V Cl m vs v us) (spans_front V Cl m vs v us) in
      elim (m.decide us v) as (λ d. length (choose d (basis us (vs ++ ws)) (v ∷ basis (v ∷ us) (vs ++ ws))) ≡ length (choose d (basis us vs) (v ∷ basis (v ∷ us) vs)) + length (basis (v ∷ vs ++ us) ws))
      [ yes c ↦ old ∙ ap (λ n. rank us vs + n) (same c) | no n ↦ ap suc (new ∙ ap (λ n. rank (v ∷ us) vs + n) same') ∙ sym (suc-add (rank (v ∷ us) vs) (rank (v ∷ vs ++ us) ws)) ]

  pub independent_of_rank : (us vs : List V) → rank us vs ≡ length vs → IsIndependentOver Cl us vs
  independent_of_rank us [] e = tt
  independent_of_rank us (v ∷ vs) e = go (m.decide us v) (independent_of_rank (v ∷ us) vs)
    where
      go : Dec (Cl us v) → (rank (v ∷ us) vs ≡ length vs → IsIndependentOver Cl (v ∷ us) vs) → IsIndependentOver Cl us (v ∷ vs)
      go (yes c) ih = absurd (let k = rank-inside us v vs c in let l = rank_le_length us vs in omega arith)
      go (no n) ih = (n, ih (let k = rank-outside us v vs n in omega arith))

  -- lists with the same span have the same rank, in whatever order
  pub rank_equal : (vs ws : List V) → Spans V Cl m ws vs → Spans V Cl m vs ws → rank [] vs ≡ rank [] ws
  rank_equal vs ws h k = le_antisymm
      (rank_monotone [] vs ws (λ x c. spans_left V Cl m ws [] x (h x c)))
      (rank_monotone [] ws vs (λ x c. spans_left V Cl m vs [] x (k x c)))

  -- one more vector in front, outside the span of the others
  pub rank-cons : (v : V) (vs : List V) → ¬ (Cl vs v) → rank [] (v ∷ vs) ≡ suc (rank [] vs)
  rank-cons v vs n =
      let moved : rank [] (v ∷ vs) ≡ rank [] (vs ++ v ∷ []) = rank_equal (v ∷ vs) (vs ++ v ∷ [])
      (λ x c. spans_front V Cl m vs v [] x (rw (append-nil vs) c)) (λ x c. rw (append-nil vs) at (spans_back V Cl m vs v [] x c)) in
      let split = rank-append [] vs (v ∷ []) in
      let last : rank (vs ++ []) (v ∷ []) ≡ 1 = rw (append-nil vs) (rank-outside vs v [] n ∙ ap suc (rank-nil (v ∷ vs))) in
      omega arith

  -- independent, where each is outside the span of those after it
  pub independent_cons : (v : V) (vs : List V) → ¬ (Cl vs v) → IsIndependentOver Cl [] vs → IsIndependentOver Cl [] (v ∷ vs)
  independent_cons v vs n i = independent_of_rank [] (v ∷ vs) (rank-cons v vs n ∙ ap suc (rank_of_independent [] vs i))

  pub rank-cons_inside : (v : V) (vs : List V) → Cl vs v → rank [] (v ∷ vs) ≡ rank [] vs
  rank-cons_inside v vs c = rank_equal (v ∷ vs) vs (spans_cons V Cl m vs v vs c (λ x k. k)) (spans_tail V Cl m v vs)

  pub outside_of_independent : (v : V) (vs : List V) → IsIndependentOver Cl [] (v ∷ vs) → ¬ (Cl vs v)
  outside_of_independent v vs i c =
      let e = rank_of_independent [] (v ∷ vs) i in
      let k = rank-cons_inside v vs c in
      let l = rank_le_length [] vs in
      omega arith

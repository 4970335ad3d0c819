-- A problem with a set of lines, seen in the space of tuples.
use Rattle.std.proofs.Common.{◌≡◌, ◌≢◌, ℕ, zero, suc, ◌+◌, ◌*◌, ◌<◌, ◌⊎◌, inl, inr, List, [], ◌∷◌, ◌++◌, length, refl, sym, ap, ap₂, ◌∙◌, subst, arith, All}
use Rattle.std.specs.Prelude.{slice_index}
use Rattle.std.proofs.lemmas.List.{map-append}
use Rattle.std.proofs.lemmas.List.Elements.{All-nil, All-cons, All-head, All-tail, All-append, All-get_or}
use Rattle.vector_spaces.proofs.Bases.{HasRankOver, rank_over_unique}
use Rattle.vector_spaces.proofs.Independence.{IsIndependent as IsIndependent_of}
use Rattle.vector_spaces.proofs.Pairs.{IsZero, NonZero, zero_or_nonzero, nonzero_not_zero}
use Rattle.vector_spaces.proofs.Span.{InSpan as InSpan_of}
use Rattle.linear_algebra.specs.Ranks.{rank_over}
use Rattle.linear_algebra.specs.Scalars.{Scalars, IsScalar, IsField}
use Rattle.linear_algebra.specs.Spans.{combination, Combines, InSpan, IsIndependent}
use Rattle.linear_algebra.specs.Vectors.{IsVector, AreVectors, zero_vector, vector_sum, multiple}
use Rattle.linear_algebra.proofs.Combinations.{combination-vector, span_vector}
use Rattle.linear_algebra.proofs.Coordinates.{tuple, element, element-number, element-zero, space, list-is, list-null}
use Rattle.linear_algebra.proofs.Elements.{Element, scalar_field}
use Rattle.linear_algebra.proofs.RankLaws.{rank_le_length}
use Rattle.linear_algebra.proofs.Transfer.{tuples_of, span_to_tuples, span_from_tuples, independent_to_tuples, independent_from_tuples}
use Rattle.linear_algebra.proofs.VectorLaws.{tuple-sum, tuple-multiple, tuple-zero, vector_sum-vector, multiple-vector}
use Rattle.matching_state.specs.LinePlaces.{InLine, IsExposed, IsOuter, IsTip, own_rank, rank_beside}
use Rattle.matching_state.specs.Supports.{HasComponent}
use Rattle.parity_lines.proofs.Border.{vectors_at-vectors, tuples_at, tuples-vectors_at, independent_lines, lines_over}
use Rattle.parity_lines.proofs.IndependentLines.{length-vectors_at}
use Rattle.parity_lines.proofs.LinePairs.{line_at_vectors}
use Rattle.parity_lines.specs.LineSets.{IsIndependentSet}
use Rattle.parity_lines.specs.Problems.{ParityProblem, IsProblem, line_at, vectors_at}
use Rattle.parity_theory.proofs.Coordinates.{line_combination-none, line_combination-cons}
use Rattle.parity_theory.proofs.Entries.{At}
use Rattle.parity_theory.proofs.Exposure.{Exposed, expose}
use Rattle.parity_theory.proofs.Lines.{vectors, line_combination, Misses}
use Rattle.parity_theory.proofs.Places.{inside, single, exposed, free, HasPlace}
use Rattle.parity_theory.proofs.Supports.{InSupport}

module _ (S : Scalars) (F : IsField S) where
  -- coordinates, read two by two
  unfoldable pub pairs : List ℕ → List (Element S × Element S)
  pairs [] = []
  pairs (a ∷ []) = []
  pairs (a ∷ b ∷ cs) = (element S F a, element S F b) ∷ pairs cs

  -- the pair at an index
  abbrev pub pair_at : List ℕ → ℕ → Element S × Element S
  pair_at cs i = (element S F (slice_index cs (2 * i)), element S F (slice_index cs (2 * i + 1)))

  pair_at-suc : (a b : ℕ) (cs : List ℕ) (i : ℕ) → pair_at (a ∷ b ∷ cs) (suc i) ≡ pair_at cs i
  pair_at-suc a b cs i =
      let e : 2 * suc i ≡ suc (suc (2 * i)) = omega arith in
      let e' : 2 * suc i + 1 ≡ suc (suc (2 * i + 1)) = omega arith in
      ap₂ (λ j k. (element S F (slice_index (a ∷ b ∷ cs) j), element S F (slice_index (a ∷ b ∷ cs) k))) e e'

  pub length-pairs : (M cs : List ℕ) → length cs ≡ 2 * length M → length (pairs cs) ≡ length M
  unfolding pairs
  length-pairs [] [] e = refl
  length-pairs [] (a ∷ cs) e = absurd (omega arith)
  length-pairs (m ∷ M) [] e = absurd (omega arith)
  length-pairs (m ∷ M) (a ∷ []) e = absurd (omega arith)
  length-pairs (m ∷ M) (a ∷ b ∷ cs) e = ap suc (length-pairs M cs (omega arith))

  -- the pair at an index stands where the line at that index stands
  pub at_pairs : (M cs : List ℕ) (i : ℕ) → length cs ≡ 2 * length M → i < length M → At (slice_index M i) (pair_at cs i) M (pairs cs)
  unfolding pairs
  at_pairs [] cs i e h = absurd (omega arith)
  at_pairs (m ∷ M) [] i e h = absurd (omega arith)
  at_pairs (m ∷ M) (a ∷ []) i e h = absurd (omega arith)
  at_pairs (m ∷ M) (a ∷ b ∷ cs) zero e h = inl (refl, refl)
  at_pairs (m ∷ M) (a ∷ b ∷ cs) (suc i) e h = inr (subst (λ q. At (slice_index M i) q M (pairs cs)) (sym (pair_at-suc a b cs i)) (at_pairs M cs i (omega arith) (omega arith)))

  -- and what stands at a line is the pair at an index of the line
  pub at_index : (M cs : List ℕ) (m : ℕ) (q : Element S × Element S) → length cs ≡ 2 * length M → At m q M (pairs cs) → (i : ℕ) × (i < length M) × (slice_index M i ≡ m) × (q ≡ pair_at cs i)
  unfolding pairs
  at_index [] cs m q e h = absurd h
  at_index (l ∷ M) [] m q e h = absurd h
  at_index (l ∷ M) (a ∷ []) m q e h = absurd h
  at_index (l ∷ M) (a ∷ b ∷ cs) m q e (inl h) = (0, omega arith, sym h.0, h.1)
  at_index (l ∷ M) (a ∷ b ∷ cs) m q e (inr h) =
      let r = at_index M cs m q (omega arith) h in (suc r.0, (let k = r.1 in omega arith), r.2, r.3 ∙ sym (pair_at-suc a b cs r.0))

module _ (S : Scalars) (F : IsField S) (p : ParityProblem) (P : IsProblem S p) where
  -- the combination by pairs, of tuples
  pub combining : (M cs : List ℕ) → All (λ m. m < length p.lines) M → IsVector S (2 * length M) cs →
      line_combination (space S F p.dimension) (tuples_at S F p) (pairs S F cs) M ≡ tuple S F p.dimension (combination S p.dimension cs (vectors_at p M))
  unfolding pairs combination vectors_at
  combining [] [] h v = line_combination-none (space S F p.dimension) (tuples_at S F p) [] ∙ sym (tuple-zero S F p.dimension)
  combining [] (a ∷ cs) h v = absurd (let e = v.length_is in omega arith)
  combining (m ∷ M) [] h v = absurd (let e = v.length_is in omega arith)
  combining (m ∷ M) (a ∷ []) h v = absurd (let e = v.length_is in omega arith)
  combining (m ∷ M) (a ∷ b ∷ cs) h v =
      let d : ℕ = p.dimension in
      let line = line_at_vectors S p m P (All-head (λ k. k < length p.lines) m M h) in
      let within : All (λ k. k < length p.lines) M = All-tail (λ k. k < length p.lines) m M h in
      let ha : IsScalar S a = All-head (IsScalar S) a (b ∷ cs) v.entries in
      let tail : All (IsScalar S) (b ∷ cs) = All-tail (IsScalar S) a (b ∷ cs) v.entries in
      let hb : IsScalar S b = All-head (IsScalar S) b cs tail in
      let hcs : IsVector S (2 * length M) cs = record { length_is = let e = v.length_is in omega arith; entries = All-tail (IsScalar S) b cs tail } in
      let rest : IsVector S d (combination S d cs (vectors_at p M)) = combination-vector S F d cs (vectors_at p M) hcs.entries (vectors_at-vectors S p P M within) in
      let au : IsVector S d (multiple S a (line_at p m).0) = multiple-vector S F d a (line_at p m).0 ha line.0 in
      let bv : IsVector S d (multiple S b (line_at p m).1) = multiple-vector S F d b (line_at p m).1 hb line.1 in
      line_combination-cons (space S F d) (tuples_at S F p) (element S F a, element S F b) (pairs S F cs) m M
      ∙ (rw (
        combining M cs within hcs,
        tuple-sum S F d (multiple S a (line_at p m).0) (vector_sum S (multiple S b (line_at p m).1) (combination S d cs (vectors_at p M))) au (vector_sum-vector S F d _ _ bv rest),
        tuple-sum S F d (multiple S b (line_at p m).1) (combination S d cs (vectors_at p M)) bv rest,
        tuple-multiple S F d a (line_at p m).0 ha line.0,
        tuple-multiple S F d b (line_at p m).1 hb line.1,
      )
      ((space S F d).plus_assoc _ _ _))

  -- a component at a line of M, by numbers and by pairs
  number_zero : (a : ℕ) → IsScalar S a → element S F a ≡ (scalar_field S F).zero → a ≡ S.zero
  number_zero a h e = sym (element-number S F a h) ∙ ap (λ (x : Element S). x.0) (e ∙ sym (element-zero S F)) ∙ element-number S F S.zero F.zero_in

  entry_in : (M cs : List ℕ) (i j : ℕ) → IsVector S (2 * length M) cs → i < length M → j < 2 → IsScalar S (slice_index cs (2 * i + j))
  entry_in M cs i j v h l = All-get_or (IsScalar S) cs (2 * i + j) 0 (let e = v.length_is in omega arith) v.entries

  -- a pair that isn't zero
  pub pair_not_zero : (M cs : List ℕ) (i : ℕ) → IsVector S (2 * length M) cs → i < length M → ¬ ((slice_index cs (2 * i) ≡ S.zero) × (slice_index cs (2 * i + 1) ≡ S.zero)) → NonZero (scalar_field S F) (pair_at S F cs i)
  pair_not_zero M cs i v h n = go (zero_or_nonzero (scalar_field S F) (pair_at S F cs i))
    where
      first : IsScalar S (slice_index cs (2 * i))
      first = subst (λ k. IsScalar S (slice_index cs k)) (omega arith) (entry_in M cs i 0 v h (omega arith))

      go : IsZero (scalar_field S F) (pair_at S F cs i) ⊎ NonZero (scalar_field S F) (pair_at S F cs i) → NonZero (scalar_field S F) (pair_at S F cs i)
      go (inl z) = absurd (n (number_zero _ first z.0, number_zero _ (entry_in M cs i 1 v h (omega arith)) z.1))
      go (inr k) = k

  pub component_in_support : (M cs : List ℕ) (m : ℕ) → IsVector S (2 * length M) cs → HasComponent S M cs m → InSupport (scalar_field S F) m (pairs S F cs) M
  component_in_support M cs m v h = (
    pair_at S F cs h.index,
    subst (λ l. At l (pair_at S F cs h.index) M (pairs S F cs)) h.line (at_pairs S F M cs h.index v.length_is h.within),
    pair_not_zero M cs h.index v h.within h.not_zero,
  )

  pub component_of_support : (M cs : List ℕ) (m : ℕ) → IsVector S (2 * length M) cs → InSupport (scalar_field S F) m (pairs S F cs) M → HasComponent S M cs m
  component_of_support M cs m v h = let r = at_index S F M cs m h.0 v.length_is h.1 in record {
    index = r.0;
    within = r.1;
    line = r.2;
    not_zero = λ z. nonzero_not_zero (scalar_field S F) h.0 h.2 (ap (λ (q : Element S × Element S). q.0) r.3 ∙ ap (element S F) z.0 ∙ element-zero S F, ap (λ (q : Element S × Element S). q.1) r.3 ∙ ap (element S F) z.1 ∙ element-zero S F);
  }

  -- what M misses, by numbers and by tuples
  missing_tuples : (M : List ℕ) (vs : List (List ℕ)) → tuples_of S F p.dimension (vectors_at p M ++ vs) ≡ vectors (tuples_at S F p) M ++ tuples_of S F p.dimension vs
  missing_tuples M vs = map-append (tuple S F p.dimension) (vectors_at p M) vs ∙ ap (λ ts. ts ++ tuples_of S F p.dimension vs) (tuples-vectors_at S F p M)

  pub misses_to : (M : List ℕ) (vs : List (List ℕ)) → All (λ m. m < length p.lines) M → AreVectors S p.dimension vs → IsIndependent S p.dimension (vectors_at p M ++ vs) →
      Misses (space S F p.dimension) (tuples_at S F p) M (tuples_of S F p.dimension vs)
  misses_to M vs h k i = subst (IsIndependent_of (space S F p.dimension)) (missing_tuples M vs)
      (independent_to_tuples S F p.dimension (vectors_at p M ++ vs) (All-append (IsVector S p.dimension) (vectors_at p M) vs (vectors_at-vectors S p P M h) k) i)

  pub misses_from : (M : List ℕ) (vs : List (List ℕ)) → All (λ m. m < length p.lines) M → AreVectors S p.dimension vs → Misses (space S F p.dimension) (tuples_at S F p) M (tuples_of S F p.dimension vs) →
      IsIndependent S p.dimension (vectors_at p M ++ vs)
  misses_from M vs h k i = independent_from_tuples S F p.dimension (vectors_at p M ++ vs) (All-append (IsVector S p.dimension) (vectors_at p M) vs (vectors_at-vectors S p P M h) k)
      (subst (IsIndependent_of (space S F p.dimension)) (sym (missing_tuples M vs)) i)

  -- the span of the lines of M, by numbers and by tuples
  pub span_to : (M : List ℕ) (x : List ℕ) → All (λ m. m < length p.lines) M → InSpan S p.dimension (vectors_at p M) x → InSpan_of (space S F p.dimension) (vectors (tuples_at S F p) M) (tuple S F p.dimension x)
  span_to M x h c = subst (λ ts. InSpan_of (space S F p.dimension) ts (tuple S F p.dimension x)) (tuples-vectors_at S F p M)
      (span_to_tuples S F p.dimension (vectors_at p M) x (vectors_at-vectors S p P M h) c)

  pub span_from : (M : List ℕ) (x : List ℕ) → All (λ m. m < length p.lines) M → IsVector S p.dimension x → InSpan_of (space S F p.dimension) (vectors (tuples_at S F p) M) (tuple S F p.dimension x) → InSpan S p.dimension (vectors_at p M) x
  span_from M x h k c = span_from_tuples S F p.dimension (vectors_at p M) x (vectors_at-vectors S p P M h) k
      (subst (λ ts. InSpan_of (space S F p.dimension) ts (tuple S F p.dimension x)) (sym (tuples-vectors_at S F p M)) c)

  -- a list that is not zero as a tuple
  pub tuple_not_null : (x : List ℕ) → IsVector S p.dimension x → x ≢ zero_vector S p.dimension → tuple S F p.dimension x ≢ (space S F p.dimension).null
  tuple_not_null x h n e = n (list-is S F p.dimension x h e ∙ list-null S F p.dimension)

  -- a line alone
  pub one_line : (e : ℕ) → e < length p.lines → All (λ m. m < length p.lines) (e ∷ [])
  one_line e h = All-cons (λ m. m < length p.lines) e [] h (All-nil (λ m. m < length p.lines))

  -- what is in the span of a line is a vector
  pub in_line_vector : (e : ℕ) (x : List ℕ) → e < length p.lines → InLine S p e x → IsVector S p.dimension x
  in_line_vector e x h c = span_vector S F p.dimension (vectors_at p (e ∷ [])) x (vectors_at-vectors S p P (e ∷ []) (one_line e h)) c

  -- coordinates over M, a pair a line
  pub coordinates_vector : (M cs x : List ℕ) → Combines S p.dimension (vectors_at p M) cs x → IsVector S (2 * length M) cs
  coordinates_vector M cs x c = subst (λ n. IsVector S n cs) (length-vectors_at p M) c.one_each

  -- a line with a tip and an outer is exposed
  pub exposed_of : (M : List ℕ) (e : ℕ) (tip cs outer : List ℕ) → IsIndependentSet S p M → e < length p.lines → IsTip S p M e tip cs → IsOuter S p M e outer →
      Exposed (space S F p.dimension) (tuples_at S F p) M e (tuple S F p.dimension tip) (tuple S F p.dimension outer) (pairs S F cs)
  exposed_of M e tip cs outer i h t o =
      let within = i.line_set.within in
      let v : IsVector S (2 * length M) cs = coordinates_vector M cs tip t.combines in
      expose (space S F p.dimension) (tuples_at S F p) M e (tuple S F p.dimension tip) (tuple S F p.dimension outer) (pairs S F cs)
      (independent_lines S F p P M within i.independent)
      (length-pairs S F M cs v.length_is)
      (combining M cs within v ∙ ap (tuple S F p.dimension) t.combines.gives)
      (tuple_not_null tip (in_line_vector e tip h t.in_line) t.not_zero)
      (span_to (e ∷ []) tip (one_line e h) t.in_line)
      (span_to (e ∷ []) outer (one_line e h) o.in_line)
      (λ c. o.outside (span_from M outer within (in_line_vector e outer h o.in_line) c))

  -- the rank of a line over M, and its own, as ranks of tuples
  has_rank_beside : (M : List ℕ) (e : ℕ) → IsIndependentSet S p M → e < length p.lines → HasRankOver (space S F p.dimension) (vectors (tuples_at S F p) M) (vectors (tuples_at S F p) (e ∷ [])) (rank_beside S p M e)
  has_rank_beside M e i h = subst (λ ts. HasRankOver (space S F p.dimension) ts (vectors (tuples_at S F p) (e ∷ [])) (rank_beside S p M e)) (tuples-vectors_at S F p M)
      (lines_over S F p P (vectors_at p M) (e ∷ []) (vectors_at-vectors S p P M i.line_set.within) i.independent (one_line e h))

  has_own_rank : (e : ℕ) → e < length p.lines → HasRankOver (space S F p.dimension) [] (vectors (tuples_at S F p) (e ∷ [])) (own_rank S p e)
  has_own_rank e h =
      let none : AreVectors S p.dimension [] = All-nil (IsVector S p.dimension) in
      let zero_rank = rank_le_length S F p.dimension [] none in
      let same : rank_over S p.dimension [] (vectors_at p (e ∷ [])) ≡ own_rank S p e = omega arith in
      subst (λ n. HasRankOver (space S F p.dimension) [] (vectors (tuples_at S F p) (e ∷ [])) n) same (lines_over S F p P [] (e ∷ []) none (independent_from_tuples S F p.dimension [] none tt) (one_line e h))

  beside_is : (M : List ℕ) (e n : ℕ) → IsIndependentSet S p M → e < length p.lines → HasRankOver (space S F p.dimension) (vectors (tuples_at S F p) M) (vectors (tuples_at S F p) (e ∷ [])) n → rank_beside S p M e ≡ n
  beside_is M e n i h r = rank_over_unique (space S F p.dimension) (vectors (tuples_at S F p) M) (vectors (tuples_at S F p) (e ∷ [])) (rank_beside S p M e) n (has_rank_beside M e i h) r

  own_is : (e n : ℕ) → e < length p.lines → HasRankOver (space S F p.dimension) [] (vectors (tuples_at S F p) (e ∷ [])) n → own_rank S p e ≡ n
  own_is e n h r = rank_over_unique (space S F p.dimension) [] (vectors (tuples_at S F p) (e ∷ [])) (own_rank S p e) n (has_own_rank e h) r

  over_beside : (M : List ℕ) (e n : ℕ) → IsIndependentSet S p M → e < length p.lines → rank_beside S p M e ≡ n → HasRankOver (space S F p.dimension) (vectors (tuples_at S F p) M) (vectors (tuples_at S F p) (e ∷ [])) n
  over_beside M e n i h q = subst (λ k. HasRankOver (space S F p.dimension) (vectors (tuples_at S F p) M) (vectors (tuples_at S F p) (e ∷ [])) k) q (has_rank_beside M e i h)

  over_none : (e n : ℕ) → e < length p.lines → own_rank S p e ≡ n → HasRankOver (space S F p.dimension) [] (vectors (tuples_at S F p) (e ∷ [])) n
  over_none e n h q = subst (λ k. HasRankOver (space S F p.dimension) [] (vectors (tuples_at S F p) (e ∷ [])) k) q (has_own_rank e h)

  -- the place of a line tells its ranks
  pub inside_rank : (M : List ℕ) (e : ℕ) → IsIndependentSet S p M → e < length p.lines → HasPlace (space S F p.dimension) (tuples_at S F p) M e inside → rank_beside S p M e ≡ 0
  inside_rank M e i h r = beside_is M e 0 i h r

  pub single_ranks : (M : List ℕ) (e : ℕ) → IsIndependentSet S p M → e < length p.lines → HasPlace (space S F p.dimension) (tuples_at S F p) M e single → (rank_beside S p M e ≡ 1) × (own_rank S p e ≡ 1)
  single_ranks M e i h r = (beside_is M e 1 i h r.0, own_is e 1 h r.1)

  pub exposed_ranks : (M : List ℕ) (e : ℕ) → IsIndependentSet S p M → e < length p.lines → HasPlace (space S F p.dimension) (tuples_at S F p) M e exposed → IsExposed S p M e
  exposed_ranks M e i h r = record { beside = beside_is M e 1 i h r.0; own = own_is e 2 h r.1 }

  pub free_rank : (M : List ℕ) (e : ℕ) → IsIndependentSet S p M → e < length p.lines → HasPlace (space S F p.dimension) (tuples_at S F p) M e free → rank_beside S p M e ≡ 2
  free_rank M e i h r = beside_is M e 2 i h r

  -- and the ranks tell the place
  pub rank_inside : (M : List ℕ) (e : ℕ) → IsIndependentSet S p M → e < length p.lines → rank_beside S p M e ≡ 0 → HasPlace (space S F p.dimension) (tuples_at S F p) M e inside
  rank_inside M e i h q = over_beside M e 0 i h q

  pub ranks_single : (M : List ℕ) (e : ℕ) → IsIndependentSet S p M → e < length p.lines → rank_beside S p M e ≡ 1 → own_rank S p e ≡ 1 → HasPlace (space S F p.dimension) (tuples_at S F p) M e single
  ranks_single M e i h q r = (over_beside M e 1 i h q, over_none e 1 h r)

  pub ranks_exposed : (M : List ℕ) (e : ℕ) → IsIndependentSet S p M → e < length p.lines → IsExposed S p M e → HasPlace (space S F p.dimension) (tuples_at S F p) M e exposed
  ranks_exposed M e i h x = (over_beside M e 1 i h x.beside, over_none e 2 h x.own)

  pub rank_free : (M : List ℕ) (e : ℕ) → IsIndependentSet S p M → e < length p.lines → rank_beside S p M e ≡ 2 → HasPlace (space S F p.dimension) (tuples_at S F p) M e free
  rank_free M e i h q = over_beside M e 2 i h q

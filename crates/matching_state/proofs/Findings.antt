-- What a line is, from what its two vectors are modulo the span of M's vectors.
use Rattle.std.proofs.Common.{◌≡◌, ◌≢◌, ◌⊎◌, ℕ, ◌<◌, inl, inr, List, [], ◌∷◌, ◌++◌, length, refl, sym, ap, ap₂, ◌∙◌, subst, arith, All}
use Rattle.std.proofs.lemmas.List.{length-append}
use Rattle.vector_spaces.proofs.Independence.{IsIndependent as IsIndependent_of, same_length_independent}
use Rattle.vector_spaces.proofs.Members.{In}
use Rattle.vector_spaces.proofs.Space.{Space}
use Rattle.vector_spaces.proofs.Span.{InSpan as InSpan_of, span_plus, span_scale, span_member, span_null}
use Rattle.vector_spaces.proofs.Tuples.{Tuple}
use Rattle.vector_spaces.proofs.Within.{Within, within_trans, placing}
use Rattle.linear_algebra.specs.Scalars.{Scalars, IsScalar, IsField}
use Rattle.linear_algebra.specs.Spans.{Combines}
use Rattle.linear_algebra.specs.Vectors.{IsVector, AreVectors, zero_vector, vector_sum, multiple}
use Rattle.linear_algebra.proofs.Combinations.{span_vector}
use Rattle.linear_algebra.proofs.Coordinates.{tuple, space, list-is, list-null, element}
use Rattle.linear_algebra.proofs.Elements.{Element, scalar_field}
use Rattle.linear_algebra.proofs.SpanLaws.{span_multiple, span_sum}
use Rattle.linear_algebra.proofs.VectorLaws.{tuple-sum, tuple-multiple, tuple-zero, multiple-vector}
use Rattle.matching_state.specs.LinePlaces.{InLine, InSet, IsExposed, IsOuter, IsTip, own_rank, rank_beside}
use Rattle.matching_state.proofs.Outsides.{misses_first, misses_both as both_missed}
use Rattle.matching_state.proofs.TailLaws.{put_back}
use Rattle.matching_state.proofs.Ties.{pairs, span_to, span_from, one_line, exposed_of, inside_rank, free_rank, single_ranks, exposed_ranks}
use Rattle.parity_lines.proofs.Border.{vectors_at-vectors, tuples_at, independent_lines}
use Rattle.parity_lines.proofs.LinePairs.{line_at_vectors}
use Rattle.parity_lines.specs.LineSets.{IsIndependentSet}
use Rattle.parity_lines.specs.Problems.{ParityProblem, IsProblem, line_at, vectors_at}
use Rattle.parity_theory.proofs.Lines.{vectors, Misses}
use Rattle.parity_theory.proofs.Places.{inside_of_within, free_of_independent, single_of_vector, exposed_of_tip}

-- u and v are the two vectors of the line e
abbrev pub AreOfLine : ParityProblem → ℕ → List ℕ → List ℕ → Type 0
AreOfLine p e u v = (line_at p e ≡ (u, v)) ⊎ (line_at p e ≡ (v, u))

module _ (S : Scalars) (F : IsField S) (p : ParityProblem) (P : IsProblem S p) (M : List ℕ) (i : IsIndependentSet S p M) (e : ℕ) (h : e < length p.lines) (u v : List ℕ) (o : AreOfLine p e u v) where
  abbrev sp : Space (scalar_field S F) (Tuple (Element S) p.dimension)
  sp = space S F p.dimension

  abbrev line : ℕ → Tuple (Element S) p.dimension × Tuple (Element S) p.dimension
  line = tuples_at S F p

  abbrev as_tuple : List ℕ → Tuple (Element S) p.dimension
  as_tuple x = tuple S F p.dimension x

  within : All (λ m. m < length p.lines) M
  within = i.line_set.within

  set_vectors : AreVectors S p.dimension (vectors_at p M)
  set_vectors = vectors_at-vectors S p P M within

  base : IsIndependent_of sp (vectors line M)
  base = independent_lines S F p P M within i.independent

  pub both_vectors : IsVector S p.dimension u × IsVector S p.dimension v
  both_vectors = go o
    where
      pair : IsVector S p.dimension (line_at p e).0 × IsVector S p.dimension (line_at p e).1
      pair = line_at_vectors S p e P h

      go : AreOfLine p e u v → IsVector S p.dimension u × IsVector S p.dimension v
      go (inl q) = subst (λ (l : List ℕ × List ℕ). IsVector S p.dimension l.0 × IsVector S p.dimension l.1) q pair
      go (inr q) = let r = subst (λ (l : List ℕ × List ℕ). IsVector S p.dimension l.0 × IsVector S p.dimension l.1) q pair in (r.1, r.0)

  both_in : In (as_tuple u) (vectors line (e ∷ [])) × In (as_tuple v) (vectors line (e ∷ []))
  both_in = go o
    where
      go : AreOfLine p e u v → In (as_tuple u) (vectors line (e ∷ [])) × In (as_tuple v) (vectors line (e ∷ []))
      go (inl q) = (inl (ap (λ (l : List ℕ × List ℕ). as_tuple l.0) (sym q)), inr (inl (ap (λ (l : List ℕ × List ℕ). as_tuple l.1) (sym q))))
      go (inr q) = (inr (inl (ap (λ (l : List ℕ × List ℕ). as_tuple l.1) (sym q))), inl (ap (λ (l : List ℕ × List ℕ). as_tuple l.0) (sym q)))

  both_span : Within sp (vectors line (e ∷ [])) (as_tuple u ∷ as_tuple v ∷ [])
  both_span = go o
    where
      go : AreOfLine p e u v → Within sp (vectors line (e ∷ [])) (as_tuple u ∷ as_tuple v ∷ [])
      go (inl q) = subst (λ (l : List ℕ × List ℕ). Within sp (as_tuple l.0 ∷ as_tuple l.1 ∷ []) (as_tuple u ∷ as_tuple v ∷ [])) (sym q) (search placing)
      go (inr q) = subst (λ (l : List ℕ × List ℕ). Within sp (as_tuple l.0 ∷ as_tuple l.1 ∷ []) (as_tuple u ∷ as_tuple v ∷ [])) (sym q) (search placing)

  in_line : (x : List ℕ) → IsVector S p.dimension x → In (as_tuple x) (vectors line (e ∷ [])) → InLine S p e x
  in_line x k j = span_from S F p P (e ∷ []) x (one_line S F p P e h) k (span_member (scalar_field S F) sp (vectors line (e ∷ [])) (as_tuple x) j)

  -- where both vectors are in the span, the line is inside
  pub inside_found : InSet S p M u → InSet S p M v → rank_beside S p M e ≡ 0
  inside_found a b =
      let first = span_to S F p P M u within a in
      let second = span_to S F p P M v within b in
      inside_rank S F p P M e i h (inside_of_within sp line M e base (within_trans sp (vectors line (e ∷ [])) (as_tuple u ∷ as_tuple v ∷ []) (vectors line M) both_span (search (first, second, placing))))

  module _ (outside : ¬ (InSet S p M u)) where
    -- a vector outside is an outer
    pub outer_found : IsOuter S p M e u
    outer_found = record { in_line = in_line u both_vectors.0 both_in.0; outside = outside }

    misses_outer : Misses sp line M (as_tuple u ∷ [])
    misses_outer = misses_first S F p P M i u v both_vectors.0 both_vectors.1 outside

    -- where the other vector is no multiple of it modulo the span, the line is free
    module _ (no_multiple : (c : ℕ) (r : List ℕ) → IsScalar S c → InSet S p M r → vector_sum S r (multiple S c u) ≢ v) where
      misses_both : Misses sp line M (as_tuple u ∷ as_tuple v ∷ [])
      misses_both = both_missed S F p P M i u v both_vectors.0 both_vectors.1 outside no_multiple

      both_within : Within sp (vectors line M ++ as_tuple u ∷ as_tuple v ∷ []) (vectors line M ++ vectors line (e ∷ []))
      both_within =
          let first : InSpan_of sp (vectors line (e ∷ [])) (as_tuple u) = span_member (scalar_field S F) sp (vectors line (e ∷ [])) (as_tuple u) both_in.0 in
          let second : InSpan_of sp (vectors line (e ∷ [])) (as_tuple v) = span_member (scalar_field S F) sp (vectors line (e ∷ [])) (as_tuple v) both_in.1 in
          search (first, second, placing)

      pub free_found : rank_beside S p M e ≡ 2
      free_found = free_rank S F p P M e i h (free_of_independent sp line M e
          (same_length_independent sp (vectors line M ++ as_tuple u ∷ as_tuple v ∷ []) (vectors line M ++ vectors line (e ∷ [])) misses_both both_within (omega (arith, length-append {A = Tuple (Element S) p.dimension}))))

    -- where it is c times the outer and r, of the span
    module _ (c : ℕ) (hc : IsScalar S c) (r : List ℕ) (s : InSet S p M r) (sum : vector_sum S r (multiple S c u) ≡ v) where
      rest_vector : IsVector S p.dimension r
      rest_vector = span_vector S F p.dimension (vectors_at p M) r set_vectors s

      in_line_rest : InLine S p e r
      in_line_rest =
          let k = F.negative c hc in
          let own : AreVectors S p.dimension (vectors_at p (e ∷ [])) = vectors_at-vectors S p P (e ∷ []) (one_line S F p P e h) in
          let is : r ≡ vector_sum S v (multiple S k.0 u) =
          sym (put_back S F p.dimension c k.0 u r hc k.1 (F.sum_comm k.0 c k.1 hc ∙ k.2) both_vectors.0 rest_vector) ∙ ap (λ t. vector_sum S t (multiple S k.0 u)) sum in
          subst (InLine S p e) (sym is) (span_sum S F p.dimension (vectors_at p (e ∷ [])) v (multiple S k.0 u) own both_vectors.1 (multiple-vector S F p.dimension k.0 u k.1 both_vectors.0) (in_line v both_vectors.1 both_in.1)
          (span_multiple S F p.dimension (vectors_at p (e ∷ [])) k.0 u own k.1 both_vectors.0 (in_line u both_vectors.0 both_in.0)))

      pub tip_found : (cs : List ℕ) → Combines S p.dimension (vectors_at p M) cs r → r ≢ zero_vector S p.dimension → IsTip S p M e r cs
      tip_found cs k n = record { in_line = in_line_rest; combines = k; not_zero = n }

      -- where r is zero, the line is single
      pub single_found : r ≡ zero_vector S p.dimension → (rank_beside S p M e ≡ 1) × (own_rank S p e ≡ 1)
      single_found z = single_ranks S F p P M e i h (single_of_vector sp line M e (as_tuple u) both_in.0 misses_outer
          (within_trans sp (vectors line (e ∷ [])) (as_tuple u ∷ as_tuple v ∷ []) (as_tuple u ∷ []) both_span (search (second, placing))))
        where
          first : InSpan_of sp (as_tuple u ∷ []) (as_tuple u)
          first = span_member (scalar_field S F) sp (as_tuple u ∷ []) (as_tuple u) (inl refl)

          is : as_tuple v ≡ sp.◌⊕◌ sp.null (sp.◌·◌ (element S F c) (as_tuple u))
          is = ap as_tuple (sym sum) ∙ tuple-sum S F p.dimension r (multiple S c u) rest_vector (multiple-vector S F p.dimension c u hc both_vectors.0)
              ∙ ap₂ sp.◌⊕◌ (ap as_tuple z ∙ tuple-zero S F p.dimension) (tuple-multiple S F p.dimension c u hc both_vectors.0)

          second : InSpan_of sp (as_tuple u ∷ []) (as_tuple v)
          second = subst (λ t. InSpan_of sp (as_tuple u ∷ []) t) (sym is)
              (span_plus (scalar_field S F) sp (as_tuple u ∷ []) sp.null (sp.◌·◌ (element S F c) (as_tuple u)) (span_null (scalar_field S F) sp (as_tuple u ∷ []))
              (span_scale (scalar_field S F) sp (as_tuple u ∷ []) (element S F c) (as_tuple u) first))

      -- where it isn't, the line is exposed
      pub exposed_found : r ≢ zero_vector S p.dimension → IsExposed S p M e
      exposed_found n =
          let t : IsTip S p M e r s.coefficients = tip_found s.coefficients s.combine n in
          exposed_ranks S F p P M e i h (exposed_of_tip sp line M e (as_tuple r) (as_tuple u) (pairs S F s.coefficients) (exposed_of S F p P M e r s.coefficients u i h t outer_found))

      -- in either case it adds one
      pub beside_found : rank_beside S p M e ≡ 1
      beside_found = go (sp.same_vector (as_tuple r) sp.null)
        where
          go : Dec (as_tuple r ≡ sp.null) → rank_beside S p M e ≡ 1
          go (yes z) = (single_found (list-is S F p.dimension r rest_vector z ∙ list-null S F p.dimension)).0
          go (no n) = (exposed_found (λ z. n (ap as_tuple z ∙ tuple-zero S F p.dimension))).beside

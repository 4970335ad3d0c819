-- Tips and outers of an exposed line: which there are, and that all of them tell the same.
use Rattle.std.proofs.Common.{◌≡◌, ◌≢◌, ℕ, ◌<◌, inl, inr, List, [], ◌∷◌, ◌++◌, length, refl, sym, ap, ◌∙◌, subst, arith}
use Rattle.std.proofs.lemmas.List.{length-append}
use Rattle.std.proofs.lemmas.List.Elements.{All-nil, All-cons}
use Rattle.vector_spaces.proofs.Bases.{HasRankOver, rank_over_bounds}
use Rattle.vector_spaces.proofs.Independence.{counting_bound, same_length_independent}
use Rattle.vector_spaces.proofs.Space.{Field, Space}
use Rattle.vector_spaces.proofs.Span.{InSpan as InSpan_of}
use Rattle.vector_spaces.proofs.Tuples.{Tuple}
use Rattle.vector_spaces.proofs.Within.{Within, within_append, within_members, within_trans, through, placing}
use Rattle.linear_algebra.specs.Scalars.{Scalars, IsScalar, IsField}
use Rattle.linear_algebra.specs.Ranks.{rank_over}
use Rattle.linear_algebra.specs.Spans.{IsIndependent}
use Rattle.linear_algebra.specs.Vectors.{IsVector, AreVectors, multiple}
use Rattle.linear_algebra.proofs.Coordinates.{tuple, space, list, list-vector, list-is, list-tuple, tuple-list, list-scale, element, element-of, element-zero}
use Rattle.linear_algebra.proofs.Elements.{Element, scalar_field}
use Rattle.matching_state.specs.Overlaps.{IsOverlap, HaveCommonComponent}
use Rattle.matching_state.specs.LinePlaces.{IsExposed, IsOuter, IsTip}
use Rattle.matching_state.specs.Supports.{HasComponent}
use Rattle.matching_state.proofs.Ties.{pairs, span_to, span_from, one_line, in_line_vector, coordinates_vector, exposed_of, exposed_ranks, ranks_exposed, component_in_support, component_of_support, misses_to, misses_from}
use Rattle.parity_lines.proofs.Border.{vectors_at-vectors, tuples_at, tuples-vectors_at, lines_over}
use Rattle.parity_lines.specs.LineSets.{IsIndependentSet}
use Rattle.parity_lines.specs.Problems.{ParityProblem, IsProblem, vectors_at}
use Rattle.parity_theory.proofs.Exposure.{Exposed, outer_outside, exposed_within, tip_is_unique, same_support}
use Rattle.parity_theory.proofs.Lines.{vectors, Misses}
use Rattle.parity_theory.proofs.Places.{tip_of_exposed, exposed_of_tip}

module _ (S : Scalars) (F : IsField S) (p : ParityProblem) (P : IsProblem S p) (M : List ℕ) (i : IsIndependentSet S p M) (e : ℕ) (h : e < length p.lines) where
  abbrev sp : Space (scalar_field S F) (Tuple (Element S) p.dimension)
  sp = space S F p.dimension

  abbrev line : ℕ → Tuple (Element S) p.dimension × Tuple (Element S) p.dimension
  line = tuples_at S F p

  pub exposed_by : (tip cs outer : List ℕ) → IsTip S p M e tip cs → IsOuter S p M e outer → IsExposed S p M e
  exposed_by tip cs outer t o = exposed_ranks S F p P M e i h (exposed_of_tip sp line M e (tuple S F p.dimension tip) (tuple S F p.dimension outer) (pairs S F cs) (exposed_of S F p P M e tip cs outer i h t o))

  -- an exposed line has an outer
  pub outer_of : IsExposed S p M e → (outer : List ℕ) × IsOuter S p M e outer
  outer_of x =
      let r = tip_of_exposed sp line M e (ranks_exposed S F p P M e i h x) in
      let outer : List ℕ = list S p.dimension r.1 in
      let same : tuple S F p.dimension outer ≡ r.1 = tuple-list S F p.dimension r.1 in (
        outer,
        record {
          in_line = span_from S F p P (e ∷ []) outer (one_line S F p P e h) (list-vector S p.dimension r.1) (subst (λ t. InSpan_of sp (vectors line (e ∷ [])) t) (sym same) (r.3.tip_outer_in.each r.1 (inr (inl refl))));
          outside = λ c. outer_outside sp line M e r.0 r.1 r.2 r.3 (subst (λ t. InSpan_of sp (vectors line M) t) same (span_to S F p P M outer i.line_set.within c));
        },
      )

  module _ (x : IsExposed S p M e) (tip cs tip' cs' : List ℕ) (t : IsTip S p M e tip cs) (t' : IsTip S p M e tip' cs') where
    as_exposed : (w ds : List ℕ) → IsTip S p M e w ds → Exposed sp line M e (tuple S F p.dimension w) (tuple S F p.dimension (outer_of x).0) (pairs S F ds)
    as_exposed w ds k = exposed_of S F p P M e w ds (outer_of x).0 i h k (outer_of x).1

    -- tips are multiples of each other
    pub tips_are_multiples : (c : ℕ) × IsScalar S c × (c ≢ S.zero) × (tip' ≡ multiple S c tip)
    tips_are_multiples =
        let r = tip_is_unique sp line M e _ _ _ (as_exposed tip cs t) _ _ _ (as_exposed tip' cs' t') in
        let a : Element S = r.0 in (
          a.0,
          a.1,
          (λ z. r.1 (sym (element-of S F a) ∙ ap (element S F) z ∙ element-zero S F)),
          list-is S F p.dimension tip' (in_line_vector S F p P e tip' h t'.in_line) r.2 ∙ list-scale S F p.dimension a (tuple S F p.dimension tip)
              ∙ ap (multiple S a.0) (list-tuple S F p.dimension tip (in_line_vector S F p P e tip h t.in_line)),
        )

    -- and have components at the same lines
    pub same_components : (m : ℕ) → HasComponent S M cs m → HasComponent S M cs' m
    same_components m k = component_of_support S F p P M cs' m (coordinates_vector S F p P M cs' tip' t'.combines)
        (same_support sp line M e _ _ _ (as_exposed tip cs t) _ _ _ (as_exposed tip' cs' t') m (component_in_support S F p P M cs m (coordinates_vector S F p P M cs tip t.combines) k))

-- two lines with outers u and w add two to the rank of M exactly where M misses the outers together
module _ {K V : Type 0} {f : Field K} (s : Space f V) (line : ℕ → V × V) (M : List ℕ) (e h : ℕ) (t u t' w : V) (cs cs' : List (K × K)) (x : Exposed s line M e t u cs) (y : Exposed s line M h t' w cs')
    (n : ℕ) (r : HasRankOver s (vectors line M) (vectors line (e ∷ h ∷ [])) n) where
  lines_within : Within s (vectors line (e ∷ h ∷ [])) (vectors line M ++ u ∷ w ∷ [])
  lines_within =
      let a : Within s (vectors line (e ∷ [])) (vectors line M ++ u ∷ w ∷ []) = within_trans s (vectors line (e ∷ [])) (vectors line M ++ u ∷ []) (vectors line M ++ u ∷ w ∷ []) (exposed_within s line M e t u cs x) (search placing depth 8) in
      let b : Within s (vectors line (h ∷ [])) (vectors line M ++ u ∷ w ∷ []) = within_trans s (vectors line (h ∷ [])) (vectors line M ++ w ∷ []) (vectors line M ++ u ∷ w ∷ []) (exposed_within s line M h t' w cs' y) (search placing depth 8) in
      within_append s (vectors line (e ∷ [])) (vectors line (h ∷ [])) (vectors line M ++ u ∷ w ∷ []) a b

  chosen_within : Within s (vectors line M ++ r.chosen) (vectors line M ++ u ∷ w ∷ [])
  chosen_within = within_append s (vectors line M) r.chosen (vectors line M ++ u ∷ w ∷ []) (search placing)
      (within_trans s r.chosen (vectors line (e ∷ h ∷ [])) (vectors line M ++ u ∷ w ∷ []) (within_members s r.chosen (vectors line (e ∷ h ∷ [])) r.chosen_in) lines_within)

  pub outers_of_rank : n ≡ 2 → Misses s line M (u ∷ w ∷ [])
  outers_of_rank q =
      let l = r.length_chosen in
      same_length_independent s (vectors line M ++ r.chosen) (vectors line M ++ u ∷ w ∷ []) r.independent chosen_within (omega (arith, length-append {A = V}))

  pub rank_of_outers : Misses s line M (u ∷ w ∷ []) → n ≡ 2
  rank_of_outers j =
      let most = counting_bound s (vectors line M ++ r.chosen) (vectors line M ++ u ∷ w ∷ []) r.independent chosen_within in
      let l = r.length_chosen in
      let in_first : InSpan_of s (vectors line (e ∷ [])) u = x.tip_outer_in.each u (inr (inl refl)) in
      let in_second : InSpan_of s (vectors line (h ∷ [])) w = y.tip_outer_in.each w (inr (inl refl)) in
      let first : InSpan_of s (vectors line M ++ vectors line (e ∷ h ∷ [])) u = through s (vectors line (e ∷ [])) (vectors line M ++ vectors line (e ∷ h ∷ [])) u (search placing depth 8) in_first in
      let second : InSpan_of s (vectors line M ++ vectors line (e ∷ h ∷ [])) w = through s (vectors line (h ∷ [])) (vectors line M ++ vectors line (e ∷ h ∷ [])) w (search placing depth 8) in_second in
      let least = rank_over_bounds s (vectors line M) (vectors line (e ∷ h ∷ [])) (u ∷ w ∷ []) n r j (search (first, second, placing)) in
      omega (arith, length-append {A = V})

module _ (S : Scalars) (F : IsField S) (p : ParityProblem) (P : IsProblem S p) (M : List ℕ) (i : IsIndependentSet S p M) (e h : ℕ) (in_e : e < length p.lines) (in_h : h < length p.lines)
    (tip cs outer tip' cs' outer' : List ℕ) (t : IsTip S p M e tip cs) (o : IsOuter S p M e outer) (t' : IsTip S p M h tip' cs') (o' : IsOuter S p M h outer') where
  has_rank : HasRankOver (space S F p.dimension) (vectors (tuples_at S F p) M) (vectors (tuples_at S F p) (e ∷ h ∷ [])) (rank_over S p.dimension (vectors_at p M) (vectors_at p (e ∷ h ∷ [])))
  has_rank = subst (λ ts. HasRankOver (space S F p.dimension) ts (vectors (tuples_at S F p) (e ∷ h ∷ [])) (rank_over S p.dimension (vectors_at p M) (vectors_at p (e ∷ h ∷ [])))) (tuples-vectors_at S F p M)
      (lines_over S F p P (vectors_at p M) (e ∷ h ∷ []) (vectors_at-vectors S p P M i.line_set.within) i.independent (All-cons (λ m. m < length p.lines) e (h ∷ []) in_e (one_line S F p P h in_h)))

  outer_vectors : AreVectors S p.dimension (outer ∷ outer' ∷ [])
  outer_vectors = All-cons (IsVector S p.dimension) outer (outer' ∷ []) (in_line_vector S F p P e outer in_e o.in_line) (All-cons (IsVector S p.dimension) outer' [] (in_line_vector S F p P h outer' in_h o'.in_line) (All-nil (IsVector S p.dimension)))

  -- any tips and outers tell whether the lines overlap
  pub overlap_tells : IsOverlap S p M e h → IsIndependent S p.dimension (vectors_at p M ++ outer ∷ outer' ∷ []) × HaveCommonComponent S M cs cs'
  overlap_tells v = (
    misses_from S F p P M (outer ∷ outer' ∷ []) i.line_set.within outer_vectors
        (outers_of_rank (space S F p.dimension) (tuples_at S F p) M e h _ _ _ _ _ _ (exposed_of S F p P M e tip cs outer i in_e t o) (exposed_of S F p P M h tip' cs' outer' i in_h t' o') _ has_rank v.apart),
    (
      v.line,
      (let k = v.first_support in same_components S F p P M i e in_e v.first k.0 k.1 tip cs k.2 t v.line k.3),
      (let k = v.second_support in same_components S F p P M i h in_h v.second k.0 k.1 tip' cs' k.2 t' v.line k.3),
    ),
  )

  pub overlap_told : IsIndependent S p.dimension (vectors_at p M ++ outer ∷ outer' ∷ []) × HaveCommonComponent S M cs cs' → IsOverlap S p M e h
  overlap_told (j, k) = record {
    first = exposed_by S F p P M i e in_e tip cs outer t o;
    second = exposed_by S F p P M i h in_h tip' cs' outer' t' o';
    apart = rank_of_outers (space S F p.dimension) (tuples_at S F p) M e h _ _ _ _ _ _ (exposed_of S F p P M e tip cs outer i in_e t o) (exposed_of S F p P M h tip' cs' outer' i in_h t' o') _ has_rank
        (misses_to S F p P M (outer ∷ outer' ∷ []) i.line_set.within outer_vectors j);
    line = k.0;
    first_support = (tip, cs, t, k.1);
    second_support = (tip', cs', t', k.2);
  }

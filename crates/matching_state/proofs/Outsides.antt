-- Two vectors, of which the first is outside the span of M's vectors: whether M misses both.
use Rattle.std.proofs.Common.{◌≡◌, ◌≢◌, ℕ, List, [], ◌∷◌, ◌++◌, sym, ap, ◌∙◌, subst, append_assoc, All, length, ◌<◌}
use Rattle.vector_spaces.proofs.Independence.{IsIndependent as IsIndependent_of, append_outside, appended_is_outside}
use Rattle.vector_spaces.proofs.Space.{Space}
use Rattle.vector_spaces.proofs.Span.{InSpan as InSpan_of, span_plus, span_scale}
use Rattle.vector_spaces.proofs.Splits.{span_split}
use Rattle.vector_spaces.proofs.Tuples.{Tuple}
use Rattle.vector_spaces.proofs.Within.{head_in, left_in, right_in}
use Rattle.linear_algebra.specs.Scalars.{Scalars, IsScalar, IsField}
use Rattle.linear_algebra.specs.Vectors.{IsVector, vector_sum, multiple}
use Rattle.linear_algebra.proofs.Combinations.{span_vector}
use Rattle.linear_algebra.proofs.Coordinates.{tuple, space, list, list-vector, list-is, list-tuple, tuple-list, list-plus, list-scale, element}
use Rattle.linear_algebra.proofs.Elements.{Element, scalar_field}
use Rattle.linear_algebra.proofs.VectorLaws.{tuple-sum, tuple-multiple, multiple-vector}
use Rattle.matching_state.specs.LinePlaces.{InSet}
use Rattle.matching_state.proofs.Ties.{span_to, span_from}
use Rattle.parity_lines.proofs.Border.{vectors_at-vectors, tuples_at, independent_lines}
use Rattle.parity_lines.specs.LineSets.{IsIndependentSet}
use Rattle.parity_lines.specs.Problems.{ParityProblem, IsProblem, vectors_at}
use Rattle.parity_theory.proofs.Lines.{vectors, Misses}

module _ (S : Scalars) (F : IsField S) (p : ParityProblem) (P : IsProblem S p) (M : List ℕ) (i : IsIndependentSet S p M) (u v : List ℕ) (hu : IsVector S p.dimension u) (hv : IsVector S p.dimension v) where
  abbrev sp : Space (scalar_field S F) (Tuple (Element S) p.dimension)
  sp = space S F p.dimension

  abbrev line : ℕ → Tuple (Element S) p.dimension × Tuple (Element S) p.dimension
  line = tuples_at S F p

  abbrev as_tuple : List ℕ → Tuple (Element S) p.dimension
  as_tuple x = tuple S F p.dimension x

  within : All (λ m. m < length p.lines) M
  within = i.line_set.within

  module _ (outside : ¬ (InSet S p M u)) where
    pub misses_first : Misses sp line M (as_tuple u ∷ [])
    misses_first = append_outside sp (vectors line M) (as_tuple u) (independent_lines S F p P M within i.independent) (λ c. outside (span_from S F p P M u within hu c))

    module _ (no_multiple : (c : ℕ) (r : List ℕ) → IsScalar S c → InSet S p M r → vector_sum S r (multiple S c u) ≢ v) where
      second_outside : ¬ (InSpan_of sp (vectors line M ++ as_tuple u ∷ []) (as_tuple v))
      second_outside c =
          let t = span_split sp (vectors line M) (as_tuple u ∷ []) (as_tuple v) c in
          let k = t.3 in
          let r : List ℕ = list S p.dimension t.0 in
          let is : as_tuple v ≡ sp.◌⊕◌ t.0 (sp.◌·◌ k.0 (as_tuple u)) =
          t.4 ∙ ap (sp.◌⊕◌ t.0) (k.3 ∙ ap (sp.◌⊕◌ (sp.◌·◌ k.0 (as_tuple u))) k.2 ∙ sp.plus-null (sp.◌·◌ k.0 (as_tuple u))) in
          no_multiple k.0.0 r k.0.1
          (span_from S F p P M r within (list-vector S p.dimension t.0) (subst (λ x. InSpan_of sp (vectors line M) x) (sym (tuple-list S F p.dimension t.0)) t.2))
          (sym (list-is S F p.dimension v hv is ∙ list-plus S F p.dimension t.0 _
          ∙ ap (vector_sum S r) (list-scale S F p.dimension k.0 (as_tuple u) ∙ ap (multiple S k.0.0) (list-tuple S F p.dimension u hu))))

      pub misses_both : Misses sp line M (as_tuple u ∷ as_tuple v ∷ [])
      misses_both = subst (λ ts. IsIndependent_of sp ts) (append_assoc (vectors line M) (as_tuple u ∷ []) (as_tuple v ∷ [])) (append_outside sp (vectors line M ++ as_tuple u ∷ []) (as_tuple v) misses_first second_outside)

  -- where the second is c times the first and a vector of the span, M doesn't miss both
  pub not_missed_both : (c : ℕ) (r : List ℕ) → IsScalar S c → InSet S p M r → vector_sum S r (multiple S c u) ≡ v → ¬ (Misses sp line M (as_tuple u ∷ as_tuple v ∷ []))
  not_missed_both c r hc s sum j =
      let r_in = span_vector S F p.dimension (vectors_at p M) r (vectors_at-vectors S p P M within) s in
      let is : as_tuple v ≡ sp.◌⊕◌ (as_tuple r) (sp.◌·◌ (element S F c) (as_tuple u)) =
      ap as_tuple (sym sum) ∙ tuple-sum S F p.dimension r (multiple S c u) r_in (multiple-vector S F p.dimension c u hc hu) ∙ ap (sp.◌⊕◌ (as_tuple r)) (tuple-multiple S F p.dimension c u hc hu) in
      let here : InSpan_of sp (vectors line M ++ as_tuple u ∷ []) (as_tuple r) = left_in sp (vectors line M) (as_tuple u ∷ []) (as_tuple r) (span_to S F p P M r within s) in
      let there : InSpan_of sp (vectors line M ++ as_tuple u ∷ []) (as_tuple u) = right_in sp (vectors line M) (as_tuple u ∷ []) (as_tuple u) (head_in sp (as_tuple u) []) in
      appended_is_outside sp (vectors line M ++ as_tuple u ∷ []) (as_tuple v) (subst (λ ts. IsIndependent_of sp ts) (sym (append_assoc (vectors line M) (as_tuple u ∷ []) (as_tuple v ∷ []))) j)
      (subst (λ t. InSpan_of sp (vectors line M ++ as_tuple u ∷ []) t) (sym is) (span_plus (scalar_field S F) sp (vectors line M ++ as_tuple u ∷ []) (as_tuple r) (sp.◌·◌ (element S F c) (as_tuple u)) here
      (span_scale (scalar_field S F) sp (vectors line M ++ as_tuple u ∷ []) (element S F c) (as_tuple u) there)))

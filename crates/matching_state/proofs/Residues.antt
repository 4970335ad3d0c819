-- The residues of vectors modulo the span of a set of lines: which of them tell that the vectors are missed.
use Rattle.std.proofs.Common.{◌≡◌, ◌≢◌, ℕ, List, [], ◌∷◌, ◌++◌, sym, ap, ap₂, ◌∙◌, subst, arith, append_assoc}
use Rattle.std.proofs.lemmas.List.{get_or-map}
use Rattle.vector_spaces.proofs.Independence.{IsIndependent as IsIndependent_of, append_outside, appended_is_outside}
use Rattle.vector_spaces.proofs.Space.{Space, move}
use Rattle.vector_spaces.proofs.Span.{InSpan as InSpan_of, span_minus, span_null, span_plus, span_scale}
use Rattle.vector_spaces.proofs.Splits.{span_split}
use Rattle.vector_spaces.proofs.Tuples.{Tuple}
use Rattle.vector_spaces.proofs.Within.{head_in, left_in, right_in}
use Rattle.linear_algebra.specs.Scalars.{Scalars, IsScalar, IsField}
use Rattle.linear_algebra.specs.Vectors.{IsVector, AreVectors, zero_vector, vector_sum, multiple}
use Rattle.linear_algebra.proofs.Combinations.{span_vector}
use Rattle.linear_algebra.proofs.Coordinates.{tuple, space, list, list-vector, list-is, list-tuple, tuple-list, list-scale, element, list-plus}
use Rattle.linear_algebra.proofs.Elements.{Element, scalar_field, product-zero}
use Rattle.linear_algebra.proofs.SpanLaws.{span_multiple}
use Rattle.linear_algebra.proofs.VectorLaws.{tuple-sum, tuple-multiple, tuple-zero, multiple-vector, list-multiple}
use Rattle.echelon.specs.Residues.{IsResidue, IsCongruent}
use Rattle.echelon.proofs.Cosets.{congruent_residues, same_residue, spanned_residue}
use Rattle.matching_state.specs.LinePlaces.{InSet}
use Rattle.matching_state.proofs.Ties.{span_to, span_from}
use Rattle.parity_lines.proofs.Border.{vectors_at-vectors, tuples_at, independent_lines}
use Rattle.parity_lines.specs.LineSets.{IsIndependentSet}
use Rattle.parity_lines.specs.Problems.{ParityProblem, IsProblem, vectors_at}
use Rattle.parity_theory.proofs.Lines.{vectors, Misses}

module _ (S : Scalars) (F : IsField S) (d : ℕ) (vs : List (List ℕ)) (V : AreVectors S d vs) where
  -- a multiple of a vector has that multiple of its residue
  pub residue_multiple : (c : ℕ) (u a : List ℕ) → IsScalar S c → IsVector S d u → IsResidue S d vs u a → IsResidue S d vs (multiple S c u) (multiple S c a)
  residue_multiple c u a hc hu r =
      let ha : IsVector S d r.added = span_vector S F d vs r.added V r.in_span in
      record {
        vector = multiple-vector S F d c a hc r.vector;
        added = multiple S c r.added;
        in_span = span_multiple S F d vs c r.added V hc ha r.in_span;
        sum = sym (list-multiple S F d c a hc r.vector)
            ∙ ap (list S d) (ap (λ t. (space S F d).◌·◌ (element S F c) t) (ap (tuple S F d) r.sum ∙ tuple-sum S F d u r.added hu ha) ∙ (space S F d).scale-plus (element S F c) (tuple S F d u) (tuple S F d r.added))
            ∙ list-plus S F d _ _ ∙ ap₂ (vector_sum S) (list-multiple S F d c u hc hu) (list-multiple S F d c r.added hc ha);
        reduced = λ q l.
            let w = l.leads.within in
            let k = l.vector.length_is in
            let m = r.vector.length_is in
            get_or-map (S.product c) a q 0 0 (omega arith) ∙ ap (S.product c) (r.reduced q l) ∙ product-zero S F c hc;
      }

module _ (S : Scalars) (F : IsField S) (p : ParityProblem) (P : IsProblem S p) (M : List ℕ) (i : IsIndependentSet S p M) where
  abbrev sp : Space (scalar_field S F) (Tuple (Element S) p.dimension)
  sp = space S F p.dimension

  abbrev line : ℕ → Tuple (Element S) p.dimension × Tuple (Element S) p.dimension
  line = tuples_at S F p

  abbrev as_tuple : List ℕ → Tuple (Element S) p.dimension
  as_tuple x = tuple S F p.dimension x

  set_vectors : AreVectors S p.dimension (vectors_at p M)
  set_vectors = vectors_at-vectors S p P M i.line_set.within

  pub residue_tuple : (u a : List ℕ) → IsVector S p.dimension u → (r : IsResidue S p.dimension (vectors_at p M) u a) → as_tuple a ≡ sp.◌⊕◌ (as_tuple u) (as_tuple r.added)
  residue_tuple u a k r = ap as_tuple r.sum ∙ tuple-sum S F p.dimension u r.added k (span_vector S F p.dimension (vectors_at p M) r.added set_vectors r.in_span)

  -- a vector whose residue is zero is in the span
  pub inside_of_zero : (u a : List ℕ) → IsVector S p.dimension u → IsResidue S p.dimension (vectors_at p M) u a → a ≡ zero_vector S p.dimension → InSet S p M u
  inside_of_zero u a h r z =
      let y : Tuple (Element S) p.dimension = as_tuple r.added in
      let e : sp.null ≡ sp.◌⊕◌ (as_tuple u) y = sym (tuple-zero S F p.dimension) ∙ ap as_tuple (sym z) ∙ residue_tuple u a h r in
      span_from S F p P M u i.line_set.within h (subst (λ t. InSpan_of sp (vectors line M) t) (move (scalar_field S F) sp sp.null y (as_tuple u) e)
      (span_minus (scalar_field S F) sp (vectors line M) sp.null y (span_null (scalar_field S F) sp (vectors line M)) (span_to S F p P M r.added i.line_set.within r.in_span)))

  -- a vector with a residue that isn't zero is missed
  pub outside_of_residue : (u a : List ℕ) → IsVector S p.dimension u → IsResidue S p.dimension (vectors_at p M) u a → a ≢ zero_vector S p.dimension → ¬ (InSet S p M u)
  outside_of_residue u a hu r n c = n (spanned_residue S F p.dimension (vectors_at p M) set_vectors u a hu c r)

  pub missed_alone : (u a : List ℕ) → IsVector S p.dimension u → IsResidue S p.dimension (vectors_at p M) u a → a ≢ zero_vector S p.dimension → Misses sp line M (as_tuple u ∷ [])
  missed_alone u a hu r n = append_outside sp (vectors line M) (as_tuple u) (independent_lines S F p P M i.line_set.within i.independent)
      (λ c. outside_of_residue u a hu r n (span_from S F p P M u i.line_set.within hu c))

  -- a second one is missed with it where its residue is no multiple
  pub missed_together : (u v a b : List ℕ) → IsVector S p.dimension u → IsVector S p.dimension v → IsResidue S p.dimension (vectors_at p M) u a → IsResidue S p.dimension (vectors_at p M) v b → a ≢ zero_vector S p.dimension →
      ((c : ℕ) → IsScalar S c → b ≢ multiple S c a) → Misses sp line M (as_tuple u ∷ as_tuple v ∷ [])
  missed_together u v a b hu hv r q n no_multiple =
      subst (λ ts. IsIndependent_of sp ts) (append_assoc (vectors line M) (as_tuple u ∷ []) (as_tuple v ∷ [])) (append_outside sp (vectors line M ++ as_tuple u ∷ []) (as_tuple v) (missed_alone u a hu r n) outside)
    where
      outside : ¬ (InSpan_of sp (vectors line M ++ as_tuple u ∷ []) (as_tuple v))
      outside c =
          let t = span_split sp (vectors line M) (as_tuple u ∷ []) (as_tuple v) c in
          let k = t.3 in
          let is : as_tuple v ≡ sp.◌⊕◌ (sp.◌·◌ k.0 (as_tuple u)) t.0 = t.4 ∙ ap (sp.◌⊕◌ t.0) (k.3 ∙ ap (sp.◌⊕◌ (sp.◌·◌ k.0 (as_tuple u))) k.2 ∙ sp.plus-null (sp.◌·◌ k.0 (as_tuple u))) ∙ sp.plus_comm t.0 (sp.◌·◌ k.0 (as_tuple u)) in
          let congruent : IsCongruent S p.dimension (vectors_at p M) v (multiple S k.0.0 u) = record {
            added = list S p.dimension t.0;
            in_span = span_from S F p P M (list S p.dimension t.0) i.line_set.within (list-vector S p.dimension t.0) (subst (λ x. InSpan_of sp (vectors line M) x) (sym (tuple-list S F p.dimension t.0)) t.2);
            sum = list-is S F p.dimension v hv is ∙ list-plus S F p.dimension _ t.0
                ∙ ap (λ x. vector_sum S x (list S p.dimension t.0)) (list-scale S F p.dimension k.0 (as_tuple u) ∙ ap (multiple S k.0.0) (list-tuple S F p.dimension u hu));
          } in
          no_multiple k.0.0 k.0.1 (congruent_residues S F p.dimension (vectors_at p M) set_vectors v (multiple S k.0.0 u) b (multiple S k.0.0 a) hv (multiple-vector S F p.dimension k.0.0 u k.0.1 hu) congruent q
          (residue_multiple S F p.dimension (vectors_at p M) set_vectors k.0.0 u a k.0.1 hu r))

  -- and it isn't where its residue is one
  pub not_missed_together : (u v a b : List ℕ) (c : ℕ) → IsVector S p.dimension u → IsVector S p.dimension v → IsScalar S c → IsResidue S p.dimension (vectors_at p M) u a → IsResidue S p.dimension (vectors_at p M) v b → b ≡ multiple S c a →
      ¬ (Misses sp line M (as_tuple u ∷ as_tuple v ∷ []))
  not_missed_together u v a b c hu hv hc r q e j =
      let g = same_residue S F p.dimension (vectors_at p M) set_vectors v (multiple S c u) b hv (multiple-vector S F p.dimension c u hc hu) q
      (subst (IsResidue S p.dimension (vectors_at p M) (multiple S c u)) (sym e) (residue_multiple S F p.dimension (vectors_at p M) set_vectors c u a hc hu r)) in
      let x : Tuple (Element S) p.dimension = as_tuple g.added in
      let added_vector = span_vector S F p.dimension (vectors_at p M) g.added set_vectors g.in_span in
      let is : as_tuple v ≡ sp.◌⊕◌ (sp.◌·◌ (element S F c) (as_tuple u)) x =
      ap as_tuple g.sum ∙ tuple-sum S F p.dimension (multiple S c u) g.added (multiple-vector S F p.dimension c u hc hu) added_vector ∙ ap (λ t. sp.◌⊕◌ t x) (tuple-multiple S F p.dimension c u hc hu) in
      let here : InSpan_of sp (vectors line M ++ as_tuple u ∷ []) x = left_in sp (vectors line M) (as_tuple u ∷ []) x (span_to S F p P M g.added i.line_set.within g.in_span) in
      let there : InSpan_of sp (vectors line M ++ as_tuple u ∷ []) (as_tuple u) = right_in sp (vectors line M) (as_tuple u ∷ []) (as_tuple u) (head_in sp (as_tuple u) []) in
      appended_is_outside sp (vectors line M ++ as_tuple u ∷ []) (as_tuple v) (subst (λ ts. IsIndependent_of sp ts) (sym (append_assoc (vectors line M) (as_tuple u ∷ []) (as_tuple v ∷ []))) j)
      (subst (λ t. InSpan_of sp (vectors line M ++ as_tuple u ∷ []) t) (sym is) (span_plus (scalar_field S F) sp (vectors line M ++ as_tuple u ∷ []) (sp.◌·◌ (element S F c) (as_tuple u)) x
      (span_scale (scalar_field S F) sp (vectors line M ++ as_tuple u ∷ []) (element S F c) (as_tuple u) there) here))

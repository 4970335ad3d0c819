-- The steps of a basis are shaped as an elimination, so what is left of a vector is its residue.
use Rattle.vector_spaces.proofs.Combination.{span_of_combination}
use Rattle.linear_algebra.proofs.Transfer.{span_from_tuples, tuples_of, combination_tuples}
use Rattle.vector_spaces.proofs.Tuples.{Tuple}
use Rattle.vector_spaces.proofs.Members.{In, In_map-from, contains-In, In-map, In-get_or}
use Rattle.linear_algebra.proofs.VectorLaws.{tuple-zero}
use Rattle.std.proofs.Common.{◌≡◌, ℕ, suc, ◌<◌, List, [], ◌∷◌, length, map, get_or, sym, ap, ◌∙◌, subst, arith}
use Rattle.echelon.proofs.Eliminations.{IsShaped, ZeroAt, Leads, zero_where_leading, reduced_adds, zero_at_pivots}
use Rattle.echelon.proofs.Reduction.{is_elimination, span_removed, taken-vectors}
use Rattle.echelon.proofs.Transfers.{IsElimination, coordinate, coordinate-linear, coordinate-zero, zero-coordinate, elimination_of, element-entry, entry-scalar, reduced_tuple, tuple-reduced, reduced-vector}
use Rattle.echelon.specs.Leads.{LeadsAt}
use Rattle.echelon.specs.Residues.{IsLeading, IsResidue}
use Rattle.echelon.specs.Eliminations.{reduced, taken, IsStep, IsEchelon}
use Rattle.linear_algebra.proofs.Coordinates.{tuple, element, element-number, space, list, list-vector, tuple-list, list-is, list-tuple, list-plus}
use Rattle.linear_algebra.proofs.Elements.{Element, scalar_field, same_element, zero_element, one_element, add_elements}
use Rattle.vector_spaces.proofs.Span.{InSpan as InSpan_of, span_scale}
use Rattle.linear_algebra.specs.Scalars.{Scalars, IsScalar, IsField}
use Rattle.linear_algebra.specs.Spans.{InSpan}
use Rattle.linear_algebra.specs.Vectors.{IsVector, zero_vector, vector_sum}
use Rattle.vector_spaces.proofs.Space.{Field, null-plus, move}
use Rattle.echelon.specs.declared.step.Step.{Step}

module _ {K : Type 0} (f : Field K) where
  open f use {zero as o, one, minus, ◌⊞◌}

  minus_unique : (a : K) → one ⊞ a ≡ o → a ≡ minus
  minus_unique a e = sym (f.add-zero a) ∙ ap (λ k. a ⊞ k) (sym f.one-minus) ∙ sym (f.add_assoc a one minus) ∙ ap (λ k. k ⊞ minus) (f.add_comm a one ∙ e) ∙ f.add_comm o minus ∙ f.add-zero minus

module _ (S : Scalars) (F : IsField S) where
  -- what is added to one gives zero is minus one
  pub element-minus : (c : ℕ) → IsScalar S c → S.sum S.one c ≡ S.zero → element S F c ≡ (scalar_field S F).minus
  unfolding scalar_field one_element zero_element add_elements
  element-minus c h e = minus_unique (scalar_field S F) (element S F c) (same_element S _ _ (ap (S.sum S.one) (element-number S F c h) ∙ e))

  module _ (d : ℕ) {X : Type 0} where
    -- of a row and of a later one, at the pivot of the first
    record IsShapedStep (s : Step X) : Type 0 where
      elimination : IsElimination S F d s
      minus_one : coordinate S F d s.pivot (tuple S F d s.row) ≡ (scalar_field S F).minus
      zero_before : (k : ℕ) → k < s.pivot → coordinate S F d k (tuple S F d s.row) ≡ (scalar_field S F).zero

    shaped : (ss : List (Step X)) → ((i : ℕ) (s : Step X) → i < length ss → IsShapedStep (get_or ss i s)) →
        ((i j : ℕ) (s t : Step X) → j < i → i < length ss → coordinate S F d (get_or ss j t).pivot (tuple S F d (get_or ss i s).row) ≡ (scalar_field S F).zero) →
        IsShaped (scalar_field S F) (space S F d) (coordinate S F d) (coordinate-linear S F d) (map (elimination_of S F d) ss)
    shaped [] h k = tt
    shaped (s ∷ ss) h k = (
      (h 0 s (omega arith)).minus_one,
      (h 0 s (omega arith)).zero_before,
      later ss (λ i t l. k (suc i) 0 t s (omega arith) (omega arith)),
      shaped ss (λ i t l. h (suc i) t (omega arith)) (λ i j t u l m. k (suc i) (suc j) t u (omega arith) (omega arith)),
    )
      where
        later : (ts : List (Step X)) → ((i : ℕ) (t : Step X) → i < length ts → coordinate S F d s.pivot (tuple S F d (get_or ts i t).row) ≡ (scalar_field S F).zero) →
            ZeroAt (scalar_field S F) (space S F d) (coordinate S F d) (coordinate-linear S F d) s.pivot (map (elimination_of S F d) ts)
        later [] z = tt
        later (t ∷ ts) z = (z 0 t (omega arith), later ts (λ i u l. z (suc i) u (omega arith)))

    module _ (ss : List (Step X)) (e : IsEchelon S d ss) where
      pub pivot_in : (i : ℕ) (s : Step X) → i < length ss → (get_or ss i s).pivot < d
      pivot_in i s h = let r = e.steps i s h in subst (λ n. (get_or ss i s).pivot < n) r.row.length_is r.leads.within

      pub is_shaped : IsShaped (scalar_field S F) (space S F d) (coordinate S F d) (coordinate-linear S F d) (map (elimination_of S F d) ss)
      is_shaped = shaped ss
          (λ i s h. let r = e.steps i s h in let p_in = pivot_in i s h in record {
            elimination = record { row_in = r.row; pivot_in = p_in };
            minus_one = sym (element-entry S F d (get_or ss i s).row (get_or ss i s).pivot r.row p_in) ∙ element-minus (get_or (get_or ss i s).row (get_or ss i s).pivot 0) (entry-scalar S F d (get_or ss i s).row (get_or ss i s).pivot r.row p_in) r.minus_one;
            zero_before = λ k l. coordinate-zero S F d (get_or ss i s).row k r.row (omega arith) (r.leads.zero_before k l);
          })
          (λ i j s t l m. coordinate-zero S F d (get_or ss i s).row (get_or ss j t).pivot (e.steps i s m).row (pivot_in j t (omega arith)) ((e.steps i s m).zero_at_earlier j t l))

      -- what the steps leave of a vector is zero at each pivot
      pub reduced_at_pivot : (v : List ℕ) (i : ℕ) (s : Step X) → IsVector S d v → i < length ss → get_or (reduced S ss v) (get_or ss i s).pivot 0 ≡ S.zero
      reduced_at_pivot v i s h l = zero-coordinate S F d (reduced S ss v) (get_or ss i s).pivot (reduced-vector S F d ss v (is_elimination S F d ss e) h) (pivot_in i s l)
          (ap (coordinate S F d (get_or ss i s).pivot) (tuple-reduced S F d ss v (is_elimination S F d ss e) h)
          ∙ zero_at_pivots (scalar_field S F) (space S F d) (coordinate S F d) (coordinate-linear S F d) (map (elimination_of S F d) ss) (tuple S F d v) is_shaped (elimination_of S F d (get_or ss i s)) (In-map (elimination_of S F d) (get_or ss i s) ss (In-get_or ss i s l)))

      leads_tuple : (u : List ℕ) (p : ℕ) → IsVector S d u → LeadsAt S u p → Leads (scalar_field S F) (space S F d) (coordinate S F d) (coordinate-linear S F d) (tuple S F d u) p
      leads_tuple u p h l =
          let p_in : p < d = subst (λ n. p < n) h.length_is l.within in
          (λ z. l.not_zero (zero-coordinate S F d u p h p_in z), λ k m. coordinate-zero S F d u k h (omega arith) (l.zero_before k m))

      -- what the steps leave of a vector is zero wherever the span leads
      pub reduced_at_leading : (v : List ℕ) (p : ℕ) → IsVector S d v → IsLeading S d (taken ss) p → get_or (reduced S ss v) p 0 ≡ S.zero
      reduced_at_leading v p h l =
          let p_in : p < d = subst (λ n. p < n) l.vector.length_is l.leads.within in
          let gone : reduced_tuple S F d ss (tuple S F d l.leader) ≡ (space S F d).null =
          sym (tuple-reduced S F d ss l.leader (is_elimination S F d ss e) l.vector) ∙ ap (tuple S F d) (span_removed S F d ss e l.leader l.vector l.in_span) ∙ tuple-zero S F d in
          let zero_there = zero_where_leading (scalar_field S F) (space S F d) (coordinate S F d) (coordinate-linear S F d) (map (elimination_of S F d) ss) (tuple S F d v) (tuple S F d l.leader) p is_shaped gone (leads_tuple l.leader p l.vector l.leads) in
          zero-coordinate S F d (reduced S ss v) p (reduced-vector S F d ss v (is_elimination S F d ss e) h) p_in (ap (coordinate S F d p) (tuple-reduced S F d ss v (is_elimination S F d ss e) h) ∙ zero_there)

      row_in_span : (s : Step X) → In s ss → InSpan_of (space S F d) (tuples_of S F d (taken ss)) (tuple S F d s.row)
      row_in_span s m =
          let c = contains-In ss s m in
          let r = subst (IsStep S d ss c.0) c.2 (e.steps c.0 s c.1) in
          subst (InSpan_of (space S F d) (tuples_of S F d (taken ss)))
          (sym (tuple-list S F d _) ∙ ap (tuple S F d) (combination_tuples S F d s.coefficients (taken ss) r.coefficients.entries (taken-vectors S F d ss e) ∙ r.made))
          (span_of_combination (scalar_field S F) (space S F d) (map (element S F) s.coefficients) (tuples_of S F d (taken ss)))

      -- what the steps add
      adds : (v : List ℕ) → (y : Tuple (Element S) d) × InSpan_of (space S F d) (tuples_of S F d (taken ss)) y × (reduced_tuple S F d ss (tuple S F d v) ≡ (space S F d).◌⊕◌ (tuple S F d v) y)
      adds v = reduced_adds (scalar_field S F) (space S F d) (coordinate S F d) (coordinate-linear S F d) (map (elimination_of S F d) ss) (tuples_of S F d (taken ss)) (tuple S F d v)
          (λ t i. let q = In_map-from (elimination_of S F d) t ss i in subst (λ (x : ℕ × Tuple (Element S) d). InSpan_of (space S F d) (tuples_of S F d (taken ss)) x.1) (sym q.2) (row_in_span q.0 q.1))

      -- what the steps leave is the residue
      pub reduced_is_residue : (v : List ℕ) → IsVector S d v → IsResidue S d (taken ss) v (reduced S ss v)
      reduced_is_residue v h =
          let V = is_elimination S F d ss e in
          let r = adds v in
          let y : List ℕ = list S d r.0 in
          let y_in : IsVector S d y = list-vector S d r.0 in
          record {
            vector = reduced-vector S F d ss v V h;
            added = y;
            in_span = span_from_tuples S F d (taken ss) y (taken-vectors S F d ss e) y_in (subst (InSpan_of (space S F d) (tuples_of S F d (taken ss))) (sym (tuple-list S F d r.0)) r.1);
            sum = list-is S F d (reduced S ss v) (reduced-vector S F d ss v V h) (tuple-reduced S F d ss v V h ∙ r.2) ∙ list-plus S F d (tuple S F d v) r.0 ∙ ap (λ w. vector_sum S w y) (list-tuple S F d v h);
            reduced = λ p l. reduced_at_leading v p h l;
          }

      -- a vector becomes zero exactly where it is in the span
      zero_in_span : (v : List ℕ) → IsVector S d v → reduced S ss v ≡ zero_vector S d → InSpan S d (taken ss) v
      zero_in_span v h z =
          let r = adds v in
          let gone : (space S F d).null ≡ (space S F d).◌⊕◌ (tuple S F d v) r.0 = sym (tuple-zero S F d) ∙ ap (tuple S F d) (sym z) ∙ tuple-reduced S F d ss v (is_elimination S F d ss e) h ∙ r.2 in
          span_from_tuples S F d (taken ss) v (taken-vectors S F d ss e) h
          (subst (InSpan_of (space S F d) (tuples_of S F d (taken ss))) (sym (null-plus (scalar_field S F) (space S F d) _) ∙ move (scalar_field S F) (space S F d) (space S F d).null r.0 (tuple S F d v) gone)
          (span_scale (scalar_field S F) (space S F d) (tuples_of S F d (taken ss)) (scalar_field S F).minus r.0 r.1))

      pub zero_exactly_in_span : (v : List ℕ) → IsVector S d v → (reduced S ss v ≡ zero_vector S d → InSpan S d (taken ss) v) × (InSpan S d (taken ss) v → reduced S ss v ≡ zero_vector S d)
      zero_exactly_in_span v h = (zero_in_span v h, span_removed S F d ss e v h)

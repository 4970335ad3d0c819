-- Residues tell the cosets of a span: congruent vectors have the same residue, and no others do.
use Rattle.std.proofs.Common.{◌≡◌, ◌≢◌, ℕ, zero, suc, ◌<◌, List, refl, sym, ap, ap₂, ◌∙◌, subst, arith, inl, inr, ◌⊎◌}
use Rattle.std.proofs.lemmas.List.{get_or-replicate}
use Rattle.echelon.proofs.Transfers.{coordinate, coordinate-linear, coordinate-zero, zero-coordinate}
use Rattle.echelon.specs.Residues.{IsLeading, IsResidue, IsCongruent}
use Rattle.linear_algebra.proofs.Combinations.{span_vector}
use Rattle.linear_algebra.proofs.Coordinates.{tuple, space, list, list-vector, list-is, list-tuple, tuple-list, list-plus, list-null}
use Rattle.linear_algebra.proofs.SpanLaws.{span_zero}
use Rattle.linear_algebra.proofs.Elements.{Element, scalar_field}
use Rattle.linear_algebra.proofs.Transfer.{tuples_of, span_to_tuples, span_from_tuples}
use Rattle.linear_algebra.proofs.VectorLaws.{tuple-sum, zero-vector}
use Rattle.linear_algebra.specs.Scalars.{Scalars, IsField}
use Rattle.linear_algebra.specs.Spans.{InSpan}
use Rattle.linear_algebra.specs.Vectors.{IsVector, AreVectors, zero_vector, vector_sum}
use Rattle.vector_spaces.proofs.Space.{Field, Space, move, null-plus, minus-plus, linear}
use Rattle.vector_spaces.proofs.Span.{InSpan as InSpan_of, span_plus, span_minus}
use Rattle.vector_spaces.proofs.Tuples.{Tuple, tuples, at}

-- where a tuple leads, unless it is null
leads : {K : Type 0} (f : Field K) (d : ℕ) (t : Tuple K d) → (t ≡ (tuples f d).null) ⊎ ((p : ℕ) × (p < d) × (at f d p t ≢ f.zero) × ((k : ℕ) → k < p → at f d k t ≡ f.zero))
leads f zero t = inl refl
leads {K} f (suc d) t = go (f.same_scalar t.0 f.zero) (leads f d t.1)
  where
    go : Dec (t.0 ≡ f.zero) → (t.1 ≡ (tuples f d).null) ⊎ ((p : ℕ) × (p < d) × (at f d p t.1 ≢ f.zero) × ((k : ℕ) → k < p → at f d k t.1 ≡ f.zero)) →
        (t ≡ (tuples f (suc d)).null) ⊎ ((p : ℕ) × (p < suc d) × (at f (suc d) p t ≢ f.zero) × ((k : ℕ) → k < p → at f (suc d) k t ≡ f.zero))
    go (no n) r = inr (0, omega arith, n, λ k l. absurd (omega arith))
    go (yes z) (inl e) = inl (ap₂ (λ a b. (a, b)) z e)
    go (yes z) (inr r) = inr (suc r.0, omega arith, r.2, before)
      where
        before : (k : ℕ) → k < suc r.0 → at f (suc d) k t ≡ f.zero
        before zero l = z
        before (suc k) l = r.3 k (omega arith)

module _ {K V : Type 0} (f : Field K) (s : Space f V) where
  infixl 65 ◌⊕◌
  infixl 70 ◌·◌
  open f use {minus}
  open s use {◌⊕◌, ◌·◌, null}

  same_part_cancels : (x u z : V) → (x ⊕ u) ⊕ minus · (x ⊕ z) ≡ u ⊕ minus · z
  same_part_cancels x u z = simp linear

  same_when_null : (x y : V) → x ⊕ minus · y ≡ null → x ≡ y
  same_when_null x y e = sym (s.plus-null x) ∙ ap (λ t. x ⊕ t) (sym (minus-plus f s y)) ∙ sym (s.plus_assoc x (minus · y) y) ∙ ap (λ t. t ⊕ y) e ∙ null-plus f s y

module _ (S : Scalars) (F : IsField S) (d : ℕ) (vs : List (List ℕ)) (V : AreVectors S d vs) where
  infixl 65 ◌⊕◌
  infixl 70 ◌·◌
  open space S F d use {◌⊕◌, ◌·◌, null}

  -- the difference of tuples
  abbrev minus_of : Tuple (Element S) d → Tuple (Element S) d → Tuple (Element S) d
  minus_of x y = x ⊕ (scalar_field S F).minus · y

  to_span : (x : List ℕ) → InSpan S d vs x → InSpan_of (space S F d) (tuples_of S F d vs) (tuple S F d x)
  to_span x h = span_to_tuples S F d vs x V h

  from_span : (x : Tuple (Element S) d) → InSpan_of (space S F d) (tuples_of S F d vs) x → InSpan S d vs (list S d x)
  from_span x h = span_from_tuples S F d vs (list S d x) V (list-vector S d x) (subst (InSpan_of (space S F d) (tuples_of S F d vs)) (sym (tuple-list S F d x)) h)

  -- the tuple of a residue
  residue_tuple : (v a : List ℕ) → IsVector S d v → (r : IsResidue S d vs v a) → tuple S F d a ≡ tuple S F d v ⊕ tuple S F d r.added
  residue_tuple v a h r = ap (tuple S F d) r.sum ∙ tuple-sum S F d v r.added h (span_vector S F d vs r.added V r.in_span)

  -- of vectors with one residue one is the other and an element of the span
  pub same_residue : (v w a : List ℕ) → IsVector S d v → IsVector S d w → IsResidue S d vs v a → IsResidue S d vs w a → IsCongruent S d vs v w
  same_residue v w a h k r q =
      let y = tuple S F d r.added in
      let z = tuple S F d q.added in
      let e : tuple S F d v ⊕ y ≡ tuple S F d w ⊕ z = sym (residue_tuple v a h r) ∙ residue_tuple w a k q in
      let u = minus_of z y in
      let moved : tuple S F d v ≡ tuple S F d w ⊕ u =
      sym (move (scalar_field S F) (space S F d) (tuple S F d w ⊕ z) y (tuple S F d v) (sym e)) ∙ (space S F d).plus_assoc (tuple S F d w) z _ in
      record {
        added = list S d u;
        in_span = from_span u (span_minus (scalar_field S F) (space S F d) (tuples_of S F d vs) z y (to_span q.added q.in_span) (to_span r.added r.in_span));
        sum = list-is S F d v h moved ∙ list-plus S F d (tuple S F d w) u ∙ ap (λ x. vector_sum S x (list S d u)) (list-tuple S F d w k);
      }

  -- the difference of the residues of congruent vectors
  difference_in : (v w a b : List ℕ) → IsVector S d v → IsVector S d w → IsCongruent S d vs v w → IsResidue S d vs v a → IsResidue S d vs w b →
      InSpan_of (space S F d) (tuples_of S F d vs) (minus_of (tuple S F d a) (tuple S F d b))
  difference_in v w a b h k c r q =
      let x = tuple S F d w in
      let u = tuple S F d c.added in
      let y = tuple S F d r.added in
      let z = tuple S F d q.added in
      let sum : tuple S F d a ≡ x ⊕ u ⊕ y = residue_tuple v a h r ∙ ap (λ t. t ⊕ y) (ap (tuple S F d) c.sum ∙ tuple-sum S F d w c.added k (span_vector S F d vs c.added V c.in_span)) in
      let is_that : minus_of (tuple S F d a) (tuple S F d b) ≡ minus_of (u ⊕ y) z = ap₂ minus_of sum (residue_tuple w b k q) ∙ ap (λ t. t ⊕ (scalar_field S F).minus · (x ⊕ z)) ((space S F d).plus_assoc x u y) ∙ same_part_cancels (scalar_field S F) (space S F d) x (u ⊕ y) z in
      subst (InSpan_of (space S F d) (tuples_of S F d vs)) (sym is_that)
      (span_minus (scalar_field S F) (space S F d) (tuples_of S F d vs) (u ⊕ y) z
      (span_plus (scalar_field S F) (space S F d) (tuples_of S F d vs) u y (to_span c.added c.in_span) (to_span r.added r.in_span)) (to_span q.added q.in_span))

  coordinate_zero : (x y : Tuple (Element S) d) (p : ℕ) → coordinate S F d p x ≡ (scalar_field S F).zero → coordinate S F d p y ≡ (scalar_field S F).zero → coordinate S F d p (minus_of x y) ≡ (scalar_field S F).zero
  coordinate_zero x y p h k =
      let lin = coordinate-linear S F d p in
      lin.plus x ((scalar_field S F).minus · y) ∙ ap₂ (scalar_field S F).◌⊞◌ h (lin.scale (scalar_field S F).minus y ∙ ap ((scalar_field S F).◌⊠◌ (scalar_field S F).minus) k ∙ (scalar_field S F).mul-zero (scalar_field S F).minus) ∙ (scalar_field S F).add-zero (scalar_field S F).zero

  -- a tuple of the span, as a list, leads where the tuple does
  is_leading : (t : Tuple (Element S) d) (p : ℕ) → InSpan_of (space S F d) (tuples_of S F d vs) t → p < d → coordinate S F d p t ≢ (scalar_field S F).zero → ((k : ℕ) → k < p → coordinate S F d k t ≡ (scalar_field S F).zero) → IsLeading S d vs p
  is_leading t p i l n z = record {
    leader = list S d t;
    vector = list-vector S d t;
    in_span = from_span t i;
    leads = record {
      within = subst (λ m. p < m) (sym (list-vector S d t).length_is) l;
      not_zero = λ e. n (subst (λ u. coordinate S F d p u ≡ (scalar_field S F).zero) (tuple-list S F d t) (coordinate-zero S F d (list S d t) p (list-vector S d t) l e));
      zero_before = λ k m. zero-coordinate S F d (list S d t) k (list-vector S d t) (omega arith) (ap (coordinate S F d k) (tuple-list S F d t) ∙ z k m);
    };
  }

  -- congruent vectors have one residue
  pub congruent_residues : (v w a b : List ℕ) → IsVector S d v → IsVector S d w → IsCongruent S d vs v w → IsResidue S d vs v a → IsResidue S d vs w b → a ≡ b
  congruent_residues v w a b h k c r q = go (leads (scalar_field S F) d (minus_of (tuple S F d a) (tuple S F d b)))
    where
      go : (minus_of (tuple S F d a) (tuple S F d b) ≡ null) ⊎ ((p : ℕ) × (p < d) × (coordinate S F d p (minus_of (tuple S F d a) (tuple S F d b)) ≢ (scalar_field S F).zero)
          × ((m : ℕ) → m < p → coordinate S F d m (minus_of (tuple S F d a) (tuple S F d b)) ≡ (scalar_field S F).zero)) → a ≡ b
      go (inl e) = list-is S F d a r.vector (same_when_null (scalar_field S F) (space S F d) (tuple S F d a) (tuple S F d b) e) ∙ list-tuple S F d b q.vector
      go (inr l) =
          let there = is_leading (minus_of (tuple S F d a) (tuple S F d b)) l.0 (difference_in v w a b h k c r q) l.1 l.2 l.3 in
          absurd (l.2 (coordinate_zero (tuple S F d a) (tuple S F d b) l.0
          (coordinate-zero S F d a l.0 r.vector l.1 (r.reduced l.0 there)) (coordinate-zero S F d b l.0 q.vector l.1 (q.reduced l.0 there))))

  zero_plus : (v : List ℕ) → IsVector S d v → vector_sum S (zero_vector S d) v ≡ v
  zero_plus v h =
      ap₂ (vector_sum S) (sym (list-null S F d)) (sym (list-tuple S F d v h)) ∙ sym (list-plus S F d null (tuple S F d v)) ∙ ap (list S d) (null-plus (scalar_field S F) (space S F d) (tuple S F d v)) ∙ list-tuple S F d v h

  zero_is_residue : IsResidue S d vs (zero_vector S d) (zero_vector S d)
  zero_is_residue = record {
    vector = zero-vector S F d;
    added = zero_vector S d;
    in_span = span_zero S F d vs V;
    sum = sym (zero_plus (zero_vector S d) (zero-vector S F d));
    reduced = λ p l. get_or-replicate d p S.zero 0 (subst (λ n. p < n) l.vector.length_is l.leads.within);
  }

  -- the residue of a vector of the span is zero
  pub spanned_residue : (v a : List ℕ) → IsVector S d v → InSpan S d vs v → IsResidue S d vs v a → a ≡ zero_vector S d
  spanned_residue v a h i r = congruent_residues v (zero_vector S d) a (zero_vector S d) h (zero-vector S F d) (record { added = v; in_span = i; sum = sym (zero_plus v h) }) r zero_is_residue

-- The projection of a vector modulo p: there is one alone, and its tuple is the projection of the vector's.
use Rattle.std.proofs.Common.{◌≡◌, ◌≢◌, ℕ, suc, ◌<◌, ◌≤◌, List, get_or, refl, sym, ap, ap₂, ◌∙◌, subst, arith}
use Rattle.std.specs.List.{remove}
use Rattle.linear_algebra.proofs.Coordinates.{tuple, list-is, list-tuple, element, element-number, element-sum, element-product, element-zero, space}
use Rattle.linear_algebra.proofs.Elements.{Element, scalar_field}
use Rattle.linear_algebra.proofs.VectorLaws.{tuple-sum, tuple-multiple, vector_sum-vector, multiple-vector}
use Rattle.linear_algebra.specs.Scalars.{Scalars, IsScalar, IsField}
use Rattle.linear_algebra.specs.Vectors.{IsVector, vector_sum, multiple}
use Rattle.quotient_spaces.proofs.Removal.{at-tuple, tuple-remove, tuple-insert, remove-vector, insert-vector}
use Rattle.quotient_spaces.specs.Projections.{IsPivot, IsProjection, lifted}
use Rattle.vector_spaces.proofs.Members.{In-get_or, In-all}
use Rattle.vector_spaces.proofs.Quotients.{Quotient}
use Rattle.vector_spaces.proofs.TupleQuotients.{tuple_without, tuple_quotient, tuple_quotient-project, tuple_quotient-lift}
use Rattle.vector_spaces.proofs.Tuples.{at}

module _ (S : Scalars) (F : IsField S) (d : ℕ) (p : List ℕ) (i : ℕ) (h : IsVector S (suc d) p) (k : IsPivot S p i) where
  -- a pivot is one of the d + 1 coordinates
  pub pivot_range : i ≤ d
  pivot_range = let a = k.in_range in let b = h.length_is in omega arith

  entry_scalar : (v : List ℕ) → IsVector S (suc d) v → IsScalar S (get_or v i S.zero)
  entry_scalar v l = In-all (IsScalar S) v l.entries (get_or v i S.zero) (In-get_or v i S.zero (let a = l.length_is in let b = pivot_range in omega arith))

  pivot_element : at (scalar_field S F) (suc d) i (tuple S F (suc d) p) ≢ (scalar_field S F).zero
  pivot_element e = k.not_zero (
      sym (element-number S F (get_or p i S.zero) (entry_scalar p h))
      ∙ ap (λ (x : Element S). x.0) (sym (at-tuple S F (suc d) i p h (let b = pivot_range in omega arith)) ∙ e ∙ sym (element-zero S F))
      ∙ element-number S F S.zero F.zero_in)

  -- the space of the vectors of length d + 1 modulo p
  pub quotient : Quotient (space S F (suc d)) (space S F d) (tuple S F (suc d) p)
  quotient = tuple_quotient (scalar_field S F) d i pivot_range (tuple S F (suc d) p) pivot_element

  -- the tuple of a projection is the projection of the tuple
  pub tuple-projection : (v w : List ℕ) → IsVector S (suc d) v → IsProjection S p i v w → tuple S F d w ≡ quotient.project (tuple S F (suc d) v)
  unfolding quotient
  tuple-projection v w l r =
      let c : ℕ = r.factor in
      let m : IsVector S (suc d) (multiple S c p) = multiple-vector S F (suc d) c p r.is_scalar h in
      let x : IsVector S (suc d) (vector_sum S v (multiple S c p)) = vector_sum-vector S F (suc d) v (multiple S c p) l m in
      let b = pivot_range in
      ap (tuple S F d) r.gives ∙ tuple-remove S F d i (vector_sum S v (multiple S c p)) x pivot_range
      ∙ ap (tuple_without d i) (tuple-sum S F (suc d) v (multiple S c p) l m ∙ ap (λ y. (space S F (suc d)).◌⊕◌ (tuple S F (suc d) v) y) (tuple-multiple S F (suc d) c p r.is_scalar h))
      ∙ sym (tuple_quotient-project (scalar_field S F) d i pivot_range (tuple S F (suc d) p) pivot_element (tuple S F (suc d) v) (element S F c) (clears' v l r (omega arith)))
    where
      clears' : (v : List ℕ) → IsVector S (suc d) v → (r : IsProjection S p i v w) → i < suc d →
          (scalar_field S F).◌⊞◌ ((scalar_field S F).◌⊠◌ (element S F r.factor) (at (scalar_field S F) (suc d) i (tuple S F (suc d) p))) (at (scalar_field S F) (suc d) i (tuple S F (suc d) v)) ≡ (scalar_field S F).zero
      clears' v l r b =
          ap₂ (λ x y. (scalar_field S F).◌⊞◌ ((scalar_field S F).◌⊠◌ (element S F r.factor) x) y) (at-tuple S F (suc d) i p h b) (at-tuple S F (suc d) i v l b)
          ∙ ap (λ x. (scalar_field S F).◌⊞◌ x (element S F (get_or v i S.zero))) (sym (element-product S F r.factor (get_or p i S.zero) r.is_scalar (entry_scalar p h)))
          ∙ sym (element-sum S F (S.product r.factor (get_or p i S.zero)) (get_or v i S.zero) (F.product_in r.factor (get_or p i S.zero) r.is_scalar (entry_scalar p h)) (entry_scalar v l))
          ∙ ap (element S F) r.clears ∙ element-zero S F

  -- it is a vector of length d, and the only one
  pub projection-vector : (v w : List ℕ) → IsVector S (suc d) v → IsProjection S p i v w → IsVector S d w
  projection-vector v w l r = subst (IsVector S d) (sym r.gives)
      (remove-vector S d i (vector_sum S v (multiple S r.factor p)) (vector_sum-vector S F (suc d) v (multiple S r.factor p) l (multiple-vector S F (suc d) r.factor p r.is_scalar h)) pivot_range)

  pub projection_unique : (v w w' : List ℕ) → IsVector S (suc d) v → IsProjection S p i v w → IsProjection S p i v w' → w ≡ w'
  projection_unique v w w' l r t = list-is S F d w (projection-vector v w l r) (tuple-projection v w l r ∙ sym (tuple-projection v w' l t)) ∙ list-tuple S F d w' (projection-vector v w' l t)

  -- and each vector has one
  pub projection_exists : (v : List ℕ) → IsVector S (suc d) v → (w : List ℕ) × IsProjection S p i v w
  projection_exists v l =
      let a : ℕ = get_or p i S.zero in
      let b : ℕ = get_or v i S.zero in
      let ha = entry_scalar p h in
      let hb = entry_scalar v l in
      let r = F.inverse a ha k.not_zero in
      let n = F.negative b hb in
      let c : ℕ = S.product n.0 r.0 in
      let hc : IsScalar S c = F.product_in n.0 r.0 n.1 r.1 in
      let e : S.sum (S.product c a) b ≡ S.zero =
      ap (λ x. S.sum x b) (F.product_assoc n.0 r.0 a n.1 r.1 ha ∙ ap (S.product n.0) (F.product_comm r.0 a r.1 ha ∙ r.2) ∙ F.product-one n.0 n.1) ∙ F.sum_comm n.0 b n.1 hb ∙ n.2 in
      (remove (vector_sum S v (multiple S c p)) i, record { factor = c; is_scalar = hc; clears = e; gives = refl })

  pub lifted-vector : (w : List ℕ) → IsVector S d w → IsVector S (suc d) (lifted S i w)
  lifted-vector w l = insert-vector S d i S.zero w F.zero_in l pivot_range

  -- a vector is the projection of its lift
  pub projection_lifted : (w : List ℕ) → IsVector S d w → IsProjection S p i (lifted S i w) w
  unfolding quotient
  projection_lifted w l =
      let r = projection_exists (lifted S i w) (lifted-vector w l) in
      let same : tuple S F d r.0 ≡ tuple S F d w = tuple-projection (lifted S i w) r.0 (lifted-vector w l) r.1
      ∙ ap quotient.project (tuple-insert S F d i w l pivot_range ∙ sym (tuple_quotient-lift (scalar_field S F) d i pivot_range (tuple S F (suc d) p) pivot_element (tuple S F d w))) ∙ quotient.project-lift (tuple S F d w) in
      subst (IsProjection S p i (lifted S i w)) (list-is S F d r.0 (projection-vector (lifted S i w) r.0 (lifted-vector w l) r.1) same ∙ list-tuple S F d w l) r.1

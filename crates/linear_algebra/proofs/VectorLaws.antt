-- Sums and multiples of vectors are those of their tuples.
use Rattle.std.proofs.Common.{◌≡◌, ℕ, List, [], ◌∷◌, All, refl, sym, ap, ap₂, ◌∙◌}
use Rattle.std.proofs.lemmas.List.Elements.{All-head, All-tail}
use Rattle.vector_spaces.proofs.Space.{linear}
use Rattle.linear_algebra.specs.Scalars.{Scalars, IsScalar, IsField}
use Rattle.linear_algebra.specs.Vectors.{IsVector, zero_vector, vector_sum, multiple}
use Rattle.linear_algebra.proofs.Coordinates.{list, list-vector, tuple, element, element-number, element-zero, list-tuple, tuple-list, space, list-null, list-plus, list-scale}

module _ (S : Scalars) (F : IsField S) (d : ℕ) where
  infixl 65 ◌⊕◌
  infixl 70 ◌·◌
  open space S F d use {null, ◌⊕◌, ◌·◌}

  pub list-sum : (u v : List ℕ) → IsVector S d u → IsVector S d v → list S d (tuple S F d u ⊕ tuple S F d v) ≡ vector_sum S u v
  list-sum u v h k = list-plus S F d (tuple S F d u) (tuple S F d v) ∙ ap₂ (vector_sum S) (list-tuple S F d u h) (list-tuple S F d v k)

  pub list-multiple : (c : ℕ) (v : List ℕ) → IsScalar S c → IsVector S d v → list S d (element S F c · tuple S F d v) ≡ multiple S c v
  list-multiple c v h k = list-scale S F d (element S F c) (tuple S F d v) ∙ ap₂ (multiple S) (element-number S F c h) (list-tuple S F d v k)

  pub tuple-sum : (u v : List ℕ) → IsVector S d u → IsVector S d v → tuple S F d (vector_sum S u v) ≡ tuple S F d u ⊕ tuple S F d v
  tuple-sum u v h k = ap (tuple S F d) (sym (list-sum u v h k)) ∙ tuple-list S F d (tuple S F d u ⊕ tuple S F d v)

  pub tuple-multiple : (c : ℕ) (v : List ℕ) → IsScalar S c → IsVector S d v → tuple S F d (multiple S c v) ≡ element S F c · tuple S F d v
  tuple-multiple c v h k = ap (tuple S F d) (sym (list-multiple c v h k)) ∙ tuple-list S F d (element S F c · tuple S F d v)

  pub tuple-zero : tuple S F d (zero_vector S d) ≡ null
  tuple-zero = ap (tuple S F d) (sym (list-null S F d)) ∙ tuple-list S F d null

  pub vector_sum-vector : (u v : List ℕ) → IsVector S d u → IsVector S d v → IsVector S d (vector_sum S u v)
  vector_sum-vector u v h k = rw (← list-sum u v h k) (list-vector S d (tuple S F d u ⊕ tuple S F d v))

  pub multiple-vector : (c : ℕ) (v : List ℕ) → IsScalar S c → IsVector S d v → IsVector S d (multiple S c v)
  multiple-vector c v h k = rw (← list-multiple c v h k) (list-vector S d (element S F c · tuple S F d v))

  pub zero-vector : IsVector S d (zero_vector S d)
  zero-vector = rw (← list-null S F d) (list-vector S d null)

  pub vector_sum_assoc : (u v w : List ℕ) → IsVector S d u → IsVector S d v → IsVector S d w → vector_sum S (vector_sum S u v) w ≡ vector_sum S u (vector_sum S v w)
  vector_sum_assoc u v w h k l =
      sym (list-sum (vector_sum S u v) w (vector_sum-vector u v h k) l)
      ∙ ap (list S d) (simp (tuple-sum u v h k, tuple-sum v w k l, linear))
      ∙ list-sum u (vector_sum S v w) h (vector_sum-vector v w k l)

  pub vector_sum-zero : (v : List ℕ) → IsVector S d v → vector_sum S v (zero_vector S d) ≡ v
  vector_sum-zero v h = sym (list-sum v (zero_vector S d) h zero-vector) ∙ ap (list S d) (simp (tuple-zero, linear)) ∙ list-tuple S F d v h

  -- one times a vector is the vector

  pub vector_sum-nothing : (v w : List ℕ) → IsVector S d v → IsVector S d w → vector_sum S v (multiple S S.zero w) ≡ v
  vector_sum-nothing v w h k =
      sym (list-sum v (multiple S S.zero w) h (multiple-vector S.zero w F.zero_in k))
      ∙ ap (list S d) (simp (tuple-multiple S.zero w F.zero_in k, element-zero S F, linear)) ∙ list-tuple S F d v h

pub multiple-one : (S : Scalars) → IsField S → (v : List ℕ) → All (IsScalar S) v → multiple S S.one v ≡ v
multiple-one S F [] h = refl
multiple-one S F (a ∷ v) h = ap₂ (λ b w. b ∷ w)
    (let l = All-head (IsScalar S) a v h in F.product_comm S.one a F.one_in l ∙ F.product-one a l)
    (multiple-one S F v (All-tail (IsScalar S) a v h))

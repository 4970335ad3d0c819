-- The steps of a basis as eliminations in the space of tuples.
use Rattle.std.proofs.Common.{◌≡◌, ℕ, zero, suc, ◌<◌, List, [], ◌∷◌, ◌++◌, map, get_or, refl, sym, ap, ◌∙◌, subst, arith, inl, inr}
use Rattle.echelon.proofs.Eliminations.{eliminated as eliminated_of, reduced as reduced_of}
use Rattle.echelon.specs.Eliminations.{eliminated, reduced}
use Rattle.linear_algebra.proofs.Coordinates.{tuple, element, element-of, list-tuple, space, list}
use Rattle.linear_algebra.proofs.Elements.{Element, scalar_field, same_element, zero_element}
use Rattle.linear_algebra.proofs.VectorLaws.{tuple-sum, tuple-multiple, vector_sum-vector, multiple-vector}
use Rattle.linear_algebra.specs.Scalars.{Scalars, IsScalar, IsField}
use Rattle.linear_algebra.specs.Vectors.{IsVector, multiple}
use Rattle.vector_spaces.proofs.LinearMaps.{IsLinear, at-linear}
use Rattle.vector_spaces.proofs.Members.{In}
use Rattle.vector_spaces.proofs.Tuples.{Tuple, line, at}
use Rattle.echelon.specs.declared.step.Step.{Step}

list-at : (S : Scalars) (F : IsField S) (d p : ℕ) (t : Tuple (Element S) d) → p < d → get_or (list S d t) p 0 ≡ (at (scalar_field S F) d p t).0
list-at S F zero p t h = absurd (omega arith)
list-at S F (suc d) zero t h = refl
list-at S F (suc d) (suc p) t h = list-at S F d p t.1 (omega arith)

module _ (S : Scalars) (F : IsField S) (d : ℕ) where
  -- the coordinate at p, and that it is linear
  abbrev pub coordinate : ℕ → Tuple (Element S) d → Element S
  coordinate p t = at (scalar_field S F) d p t

  pub coordinate-linear : (p : ℕ) → IsLinear (space S F d) (line (scalar_field S F)) (coordinate p)
  coordinate-linear p = at-linear (scalar_field S F) d p

  pub entry-coordinate : (v : List ℕ) (p : ℕ) → IsVector S d v → p < d → get_or v p 0 ≡ (coordinate p (tuple S F d v)).0
  entry-coordinate v p h k = ap (λ w. get_or w p 0) (sym (list-tuple S F d v h)) ∙ list-at S F d p (tuple S F d v) k

  pub element-entry : (v : List ℕ) (p : ℕ) → IsVector S d v → p < d → element S F (get_or v p 0) ≡ coordinate p (tuple S F d v)
  element-entry v p h k = ap (element S F) (entry-coordinate v p h k) ∙ element-of S F (coordinate p (tuple S F d v))

  -- an entry is zero exactly where the coordinate is
  pub coordinate-zero : (v : List ℕ) (p : ℕ) → IsVector S d v → p < d → get_or v p 0 ≡ S.zero → coordinate p (tuple S F d v) ≡ (scalar_field S F).zero
  unfolding scalar_field zero_element
  coordinate-zero v p h k z = same_element S _ _ (sym (entry-coordinate v p h k) ∙ z)

  pub zero-coordinate : (v : List ℕ) (p : ℕ) → IsVector S d v → p < d → coordinate p (tuple S F d v) ≡ (scalar_field S F).zero → get_or v p 0 ≡ S.zero
  unfolding scalar_field zero_element
  zero-coordinate v p h k z = entry-coordinate v p h k ∙ ap (λ (a : Element S). a.0) z

  pub entry-scalar : (v : List ℕ) (p : ℕ) → IsVector S d v → p < d → IsScalar S (get_or v p 0)
  entry-scalar v p h k = subst (IsScalar S) (sym (entry-coordinate v p h k)) (coordinate p (tuple S F d v)).1

  -- what each step needs for its elimination
  pub record IsElimination {X : Type 0} (s : Step X) : Type 0 where
    pub row_in : IsVector S d s.row
    pub pivot_in : s.pivot < d

  abbrev pub elimination_of : {X : Type 0} → Step X → ℕ × Tuple (Element S) d
  elimination_of s = (s.pivot, tuple S F d s.row)

  abbrev pub reduced_tuple : {X : Type 0} → List (Step X) → Tuple (Element S) d → Tuple (Element S) d
  reduced_tuple ss = reduced_of (scalar_field S F) (space S F d) coordinate coordinate-linear (map elimination_of ss)

  pub eliminated-vector : {X : Type 0} (s : Step X) (v : List ℕ) → IsElimination s → IsVector S d v → IsVector S d (eliminated S s v)
  eliminated-vector s v h k = vector_sum-vector S F d v (multiple S (get_or v s.pivot 0) s.row) k (multiple-vector S F d (get_or v s.pivot 0) s.row (entry-scalar v s.pivot k h.pivot_in) h.row_in)

  pub tuple-eliminated : {X : Type 0} (s : Step X) (v : List ℕ) → IsElimination s → IsVector S d v →
      tuple S F d (eliminated S s v) ≡ eliminated_of (scalar_field S F) (space S F d) coordinate coordinate-linear (elimination_of s) (tuple S F d v)
  tuple-eliminated s v h k =
      let c = entry-scalar v s.pivot k h.pivot_in in
      tuple-sum S F d v (multiple S (get_or v s.pivot 0) s.row) k (multiple-vector S F d (get_or v s.pivot 0) s.row c h.row_in)
      ∙ ap (λ t. (space S F d).◌⊕◌ (tuple S F d v) t) (tuple-multiple S F d (get_or v s.pivot 0) s.row c h.row_in ∙ ap (λ a. (space S F d).◌·◌ a (tuple S F d s.row)) (element-entry v s.pivot k h.pivot_in))

  pub reduced-vector : {X : Type 0} (ss : List (Step X)) (v : List ℕ) → ((s : Step X) → In s ss → IsElimination s) → IsVector S d v → IsVector S d (reduced S ss v)
  unfolding reduced
  reduced-vector [] v h k = k
  reduced-vector (s ∷ ss) v h k = reduced-vector ss (eliminated S s v) (λ t i. h t (inr i)) (eliminated-vector s v (h s (inl refl)) k)

  pub tuple-reduced : {X : Type 0} (ss : List (Step X)) (v : List ℕ) → ((s : Step X) → In s ss → IsElimination s) → IsVector S d v → tuple S F d (reduced S ss v) ≡ reduced_tuple ss (tuple S F d v)
  unfolding reduced
  tuple-reduced [] v h k = refl
  tuple-reduced (s ∷ ss) v h k = tuple-reduced ss (eliminated S s v) (λ t i. h t (inr i)) (eliminated-vector s v (h s (inl refl)) k) ∙ ap (reduced_tuple ss) (tuple-eliminated s v (h s (inl refl)) k)

pub reduced-push : {X : Type 0} (S : Scalars) (ss : List (Step X)) (s : Step X) (v : List ℕ) → reduced S (ss ++ s ∷ []) v ≡ eliminated S s (reduced S ss v)
unfolding reduced
reduced-push S [] s v = refl
reduced-push S (t ∷ ss) s v = reduced-push S ss s (eliminated S t v)

-- A coordinate left out of a list, or zero put in, is the same done to its tuple.
use Rattle.std.proofs.Common.{◌≡◌, ℕ, zero, suc, ◌<◌, ◌≤◌, List, [], ◌∷◌, get_or, refl, ap, arith}
use Rattle.std.specs.List.{insert, remove}
use Rattle.std.proofs.lemmas.List.Elements.{All-cons}
use Rattle.linear_algebra.proofs.Coordinates.{IsVector-head, IsVector-tail, element, element-zero, tuple}
use Rattle.linear_algebra.proofs.Elements.{scalar_field}
use Rattle.linear_algebra.specs.Scalars.{Scalars, IsScalar, IsField}
use Rattle.linear_algebra.specs.Vectors.{IsVector}
use Rattle.vector_spaces.proofs.TupleQuotients.{tuple_without, tuple_with_zero}
use Rattle.vector_spaces.proofs.Tuples.{at}

module _ (S : Scalars) (F : IsField S) where
  -- the coordinate of the tuple at i
  pub at-tuple : (d i : ℕ) (v : List ℕ) → IsVector S d v → i < d → at (scalar_field S F) d i (tuple S F d v) ≡ element S F (get_or v i S.zero)
  unfolding tuple
  at-tuple zero i v h l = absurd (omega arith)
  at-tuple (suc d) i [] h l = absurd (let e = h.length_is in omega arith)
  at-tuple (suc d) zero (a ∷ v) h l = refl
  at-tuple (suc d) (suc i) (a ∷ v) h l = at-tuple d i v (IsVector-tail S d a v h) (omega arith)

  -- one coordinate less
  pub tuple-remove : (d i : ℕ) (v : List ℕ) → IsVector S (suc d) v → i ≤ d → tuple S F d (remove v i) ≡ tuple_without d i (tuple S F (suc d) v)
  unfolding tuple
  tuple-remove d i [] h l = absurd (let e = h.length_is in omega arith)
  tuple-remove d zero (a ∷ v) h l = refl
  tuple-remove zero (suc i) (a ∷ v) h l = absurd (omega arith)
  tuple-remove (suc d) (suc i) (a ∷ v) h l = ap (λ t. (element S F a, t)) (tuple-remove d i v (IsVector-tail S (suc d) a v h) (omega arith))

  -- zero put in
  pub tuple-insert : (d i : ℕ) (w : List ℕ) → IsVector S d w → i ≤ d → tuple S F (suc d) (insert w i S.zero) ≡ tuple_with_zero (scalar_field S F) d i (tuple S F d w)
  unfolding tuple
  tuple-insert d zero w h l = ap (λ a. (a, tuple S F d w)) (element-zero S F)
  tuple-insert zero (suc i) w h l = absurd (omega arith)
  tuple-insert (suc d) (suc i) [] h l = absurd (let e = h.length_is in omega arith)
  tuple-insert (suc d) (suc i) (a ∷ w) h l = ap (λ t. (element S F a, t)) (tuple-insert d i w (IsVector-tail S d a w h) (omega arith))

module _ (S : Scalars) where
  cons-vector : (d a : ℕ) (v : List ℕ) → IsScalar S a → IsVector S d v → IsVector S (suc d) (a ∷ v)
  cons-vector d a v h k = record { length_is = ap suc k.length_is; entries = All-cons (IsScalar S) a v h k.entries }

  -- both lists are vectors
  pub remove-vector : (d i : ℕ) (v : List ℕ) → IsVector S (suc d) v → i ≤ d → IsVector S d (remove v i)
  remove-vector d i [] h l = absurd (let e = h.length_is in omega arith)
  remove-vector d zero (a ∷ v) h l = IsVector-tail S d a v h
  remove-vector zero (suc i) (a ∷ v) h l = absurd (omega arith)
  remove-vector (suc d) (suc i) (a ∷ v) h l = cons-vector d a (remove v i) (IsVector-head S (suc d) a v h) (remove-vector d i v (IsVector-tail S (suc d) a v h) (omega arith))

  pub insert-vector : (d i a : ℕ) (w : List ℕ) → IsScalar S a → IsVector S d w → i ≤ d → IsVector S (suc d) (insert w i a)
  insert-vector d zero a w z h l = cons-vector d a w z h
  insert-vector zero (suc i) a w z h l = absurd (omega arith)
  insert-vector (suc d) (suc i) a [] z h l = absurd (let e = h.length_is in omega arith)
  insert-vector (suc d) (suc i) a (b ∷ w) z h l = cons-vector (suc d) b (insert w i a) (IsVector-head S d b w h) (insert-vector d i a w z (IsVector-tail S d b w h) (omega arith))

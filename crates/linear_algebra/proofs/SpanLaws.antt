-- The spans of lists of vectors.
use Rattle.std.proofs.Common.{ℕ, List, ◌++◌, sym, subst, All}
use Rattle.vector_spaces.proofs.Members.{In, In-map, In_map-from, In-all, all-In, In-append_left, In-append_right}
use Rattle.vector_spaces.proofs.Span.{InSpan as InSpan_of, span_null, span_plus, span_scale, span_member as member_law, span_through as through_law, decide_span}
use Rattle.vector_spaces.proofs.Within.{Within}
use Rattle.linear_algebra.specs.Scalars.{Scalars, IsScalar, IsField}
use Rattle.linear_algebra.specs.Vectors.{IsVector, AreVectors, zero_vector, vector_sum, multiple}
use Rattle.linear_algebra.specs.Spans.{InSpan}
use Rattle.linear_algebra.proofs.Elements.{scalar_field}
use Rattle.linear_algebra.proofs.Coordinates.{tuple, element, space}
use Rattle.linear_algebra.proofs.Transfer.{tuples_of, span_to_tuples, span_from_tuples}
use Rattle.linear_algebra.proofs.VectorLaws.{tuple-sum, tuple-multiple, tuple-zero, vector_sum-vector, multiple-vector, zero-vector}

module _ (S : Scalars) (F : IsField S) (d : ℕ) where
  pub span_decidable : (vs : List (List ℕ)) (x : List ℕ) → AreVectors S d vs → IsVector S d x → Dec (InSpan S d vs x)
  span_decidable vs x h k = go (decide_span (scalar_field S F) (space S F d) (tuples_of S F d vs) (tuple S F d x))
    where
      go : Dec (InSpan_of (space S F d) (tuples_of S F d vs) (tuple S F d x)) → Dec (InSpan S d vs x)
      go (yes c) = yes (span_from_tuples S F d vs x h k c)
      go (no n) = no (λ c. n (span_to_tuples S F d vs x h c))

  pub span_member : (vs : List (List ℕ)) (x : List ℕ) → AreVectors S d vs → In x vs → InSpan S d vs x
  span_member vs x h i = span_from_tuples S F d vs x h (In-all (IsVector S d) vs h x i) (member_law (scalar_field S F) (space S F d) (tuples_of S F d vs) (tuple S F d x) (In-map (tuple S F d) x vs i))

  pub span_zero : (vs : List (List ℕ)) → AreVectors S d vs → InSpan S d vs (zero_vector S d)
  span_zero vs h = span_from_tuples S F d vs (zero_vector S d) h (zero-vector S F d) (rw (tuple-zero S F d) (span_null (scalar_field S F) (space S F d) (tuples_of S F d vs)))

  pub span_sum : (vs : List (List ℕ)) (u v : List ℕ) → AreVectors S d vs → IsVector S d u → IsVector S d v → InSpan S d vs u → InSpan S d vs v → InSpan S d vs (vector_sum S u v)
  span_sum vs u v h k l a b = span_from_tuples S F d vs (vector_sum S u v) h (vector_sum-vector S F d u v k l)
      (rw (tuple-sum S F d u v k l) (span_plus (scalar_field S F) (space S F d) (tuples_of S F d vs) (tuple S F d u) (tuple S F d v) (span_to_tuples S F d vs u h a) (span_to_tuples S F d vs v h b)))

  pub span_multiple : (vs : List (List ℕ)) (c : ℕ) (v : List ℕ) → AreVectors S d vs → IsScalar S c → IsVector S d v → InSpan S d vs v → InSpan S d vs (multiple S c v)
  span_multiple vs c v h k l a = span_from_tuples S F d vs (multiple S c v) h (multiple-vector S F d c v k l)
      (rw (tuple-multiple S F d c v k l) (span_scale (scalar_field S F) (space S F d) (tuples_of S F d vs) (element S F c) (tuple S F d v) (span_to_tuples S F d vs v h a)))

  pub within_tuples : (us vs : List (List ℕ)) → AreVectors S d vs → All (InSpan S d vs) us → Within (space S F d) (tuples_of S F d us) (tuples_of S F d vs)
  within_tuples us vs h k = record { each = λ t i. let r = In_map-from (tuple S F d) t us i in subst (InSpan_of (space S F d) (tuples_of S F d vs)) (sym r.2) (span_to_tuples S F d vs r.0 h (In-all (InSpan S d vs) us k r.0 r.1)) }

  -- a span of a span
  pub span_through : (vs ws : List (List ℕ)) (x : List ℕ) → AreVectors S d vs → AreVectors S d ws → IsVector S d x → All (InSpan S d ws) vs → InSpan S d vs x → InSpan S d ws x
  span_through vs ws x h k l a c = span_from_tuples S F d ws x k l (through_law (scalar_field S F) (space S F d) (tuples_of S F d vs) (tuples_of S F d ws) (tuple S F d x) (within_tuples vs ws k a).each (span_to_tuples S F d vs x h c))

  -- the span depends on the members alone
  pub span_of_members : (vs ws : List (List ℕ)) (x : List ℕ) → AreVectors S d ws → IsVector S d x → ((v : List ℕ) → In v vs → In v ws) → InSpan S d vs x → InSpan S d ws x
  span_of_members vs ws x h k sub c = span_through vs ws x (all-In (IsVector S d) vs (λ v i. In-all (IsVector S d) ws h v (sub v i))) h k (all-In (InSpan S d ws) vs (λ v i. span_member ws v h (sub v i))) c

  pub span_append_left : (vs ws : List (List ℕ)) (x : List ℕ) → AreVectors S d (vs ++ ws) → IsVector S d x → InSpan S d vs x → InSpan S d (vs ++ ws) x
  span_append_left vs ws x h k c = span_of_members vs (vs ++ ws) x h k (λ v i. In-append_left v vs ws i) c

  pub span_append_right : (vs ws : List (List ℕ)) (x : List ℕ) → AreVectors S d (vs ++ ws) → IsVector S d x → InSpan S d ws x → InSpan S d (vs ++ ws) x
  span_append_right vs ws x h k c = span_of_members ws (vs ++ ws) x h k (λ v i. In-append_right v vs ws i) c

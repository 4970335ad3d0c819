-- The rank of vectors is the rank of their tuples, and so obeys the laws of a closure with exchange.
use Rattle.std.proofs.Common.{◌≡◌, ℕ, ◌≤◌, List, [], ◌++◌, length, sym, ap, ◌∙◌, subst, arith, le_antisymm, append-nil}
use Rattle.std.proofs.lemmas.List.{length-map}
use Rattle.vector_spaces.proofs.Members.{In-map, In_map-from, In-all, all-In}
use Rattle.vector_spaces.proofs.Sublists.{IsSublist, sub_in, sub_map-from}
use Rattle.vector_spaces.proofs.Ranks.{rank as rank_of, basis, basis_sublist, basis_independent, rank-length_basis, rank_most}
use Rattle.vector_spaces.proofs.Tuples.{Tuple}
use Rattle.vector_spaces.proofs.Span.{InSpan as InSpan_of, span_closure, span_member}
use Rattle.vector_spaces.proofs.Independence.{IsIndependent as IsIndependent_of}
use Rattle.linear_algebra.specs.Scalars.{Scalars, IsField}
use Rattle.linear_algebra.specs.Vectors.{IsVector, AreVectors}
use Rattle.linear_algebra.specs.Ranks.{rank}
use Rattle.linear_algebra.proofs.Elements.{Element, scalar_field}
use Rattle.linear_algebra.proofs.Coordinates.{tuple, space}
use Rattle.linear_algebra.proofs.Transfer.{tuples_of, independent_to_tuples, independent_from_tuples}
use Rattle.linear_algebra.proofs.Selections.{length_le-rank, rank_reached}

pub vectors_of_sublist : (S : Scalars) (d : ℕ) (us vs : List (List ℕ)) → AreVectors S d vs → IsSublist us vs → AreVectors S d us
vectors_of_sublist S d us vs h k = all-In (IsVector S d) us (λ x i. In-all (IsVector S d) vs h x (sub_in us vs k x i))

module _ (S : Scalars) (F : IsField S) (d : ℕ) where
  -- the rank of tuples over others
  abbrev pub rank_of_tuples : List (Tuple (Element S) d) → List (Tuple (Element S) d) → ℕ
  rank_of_tuples = rank_of (Tuple (Element S) d) (InSpan_of (space S F d)) (span_closure (scalar_field S F) (space S F d))

  pub rank-tuples : (vs : List (List ℕ)) → AreVectors S d vs → rank S d vs ≡ rank_of_tuples [] (tuples_of S F d vs)
  rank-tuples vs h = le_antisymm most least
    where
      most : rank S d vs ≤ rank_of_tuples [] (tuples_of S F d vs)
      most =
          let r = rank_reached S d vs in
          let us : List (List ℕ) = r.0 in
          let k = rank_most (Tuple (Element S) d) (InSpan_of (space S F d)) (span_closure (scalar_field S F) (space S F d)) [] (tuples_of S F d vs) (tuples_of S F d us)
          (independent_to_tuples S F d us (vectors_of_sublist S d us vs h r.1) r.2)
          (λ t i. let o = In_map-from (tuple S F d) t us i in subst (λ x. InSpan_of (space S F d) (tuples_of S F d vs ++ []) x) (sym o.2)
          (rw append-nil (span_member (scalar_field S F) (space S F d) (tuples_of S F d vs) (tuple S F d o.0) (In-map (tuple S F d) o.0 vs (sub_in us vs r.1 o.0 o.1))))) in
          let e = length-map us (tuple S F d) in
          let f = r.3 in
          omega arith

      least : rank_of_tuples [] (tuples_of S F d vs) ≤ rank S d vs
      least =
          let m = span_closure (scalar_field S F) (space S F d) in
          let b : List (Tuple (Element S) d) = basis (Tuple (Element S) d) (InSpan_of (space S F d)) m [] (tuples_of S F d vs) in
          let r = sub_map-from (tuple S F d) b vs (basis_sublist (Tuple (Element S) d) (InSpan_of (space S F d)) m [] (tuples_of S F d vs)) in
          let i = independent_from_tuples S F d r.0 (vectors_of_sublist S d r.0 vs h r.1) (subst (λ t. IsIndependent_of (space S F d) t) (sym r.2) (basis_independent (Tuple (Element S) d) (InSpan_of (space S F d)) m [] (tuples_of S F d vs))) in
          let k = length_le-rank S d r.0 vs r.1 i in
          let e : length b ≡ length r.0 = ap length (sym r.2) ∙ length-map r.0 (tuple S F d) in
          let l = rank-length_basis (Tuple (Element S) d) (InSpan_of (space S F d)) m [] (tuples_of S F d vs) in
          omega arith

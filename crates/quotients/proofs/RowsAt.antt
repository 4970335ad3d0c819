-- The unit vector of a position, less its residue.
use Rattle.std.proofs.Common.{◌≡◌, ℕ, ◌<◌, List, get_or, set, map, sym, ap, ap₂, ◌∙◌, subst}
use Rattle.std.proofs.lemmas.List.{map-set, get_or-replicate, get_or-set_same, get_or-set_other, length-set, length-replicate}
use Rattle.std.proofs.lemmas.List.Elements.{All-replicate, All-set}
use Rattle.vector_spaces.proofs.Space.{Field, Space, linear}
use Rattle.linear_algebra.specs.Scalars.{Scalars, IsScalar, IsField}
use Rattle.linear_algebra.specs.Vectors.{IsVector, AreVectors, zero_vector, vector_sum, multiple}
use Rattle.linear_algebra.proofs.Combinations.{span_vector}
use Rattle.linear_algebra.proofs.Coordinates.{tuple, list-is, space}
use Rattle.linear_algebra.proofs.Elements.{scalar_field, product-zero}
use Rattle.linear_algebra.proofs.SpanLaws.{span_multiple}
use Rattle.linear_algebra.proofs.VectorLaws.{tuple-sum, tuple-multiple, list-multiple, vector_sum-vector, multiple-vector}
use Rattle.echelon.specs.Residues.{IsLeading, IsResidue}
use Rattle.echelon.proofs.Entries.{entry-sum, entry-multiple}
use Rattle.echelon.proofs.Residue.{element-minus}
use Rattle.echelon.proofs.Transfers.{entry-scalar}
use Rattle.quotients.specs.Reductions.{IsRowAt}

pub set_value : {X : Type 0} (f : X → ℕ) (xs : List X) (i : ℕ) (x : X) (z : ℕ) → f x ≡ z → map f (set xs i x) ≡ set (map f xs) i z
set_value f xs i x z e = map-set f xs i x ∙ ap (set (map f xs) i) e

module _ {K V : Type 0} (f : Field K) (s : Space f V) where
  infixl 65 ◌⊕◌
  infixl 70 ◌·◌
  open f use {minus}
  open s use {◌⊕◌, ◌·◌}

  less_residue : (e a : V) → e ⊕ minus · (e ⊕ a) ≡ minus · a
  less_residue e a = simp linear

module _ (S : Scalars) (F : IsField S) (d : ℕ) (vs : List (List ℕ)) (V : AreVectors S d vs) (p : ℕ) (l : p < d) where
  unit-vector : IsVector S d (set (zero_vector S d) p S.one)
  unit-vector = record {
    length_is = length-set (zero_vector S d) p S.one ∙ length-replicate d S.zero;
    entries = All-set (IsScalar S) (zero_vector S d) p S.one F.one_in (All-replicate (IsScalar S) d S.zero F.zero_in);
  }

  pub row_is_at : (e r u : List ℕ) (m : ℕ) → e ≡ set (zero_vector S d) p S.one → IsResidue S d vs e r → IsScalar S m → S.sum S.one m ≡ S.zero → u ≡ vector_sum S e (multiple S m r) → IsRowAt S d vs p u
  row_is_at e r u m is_e res m_in minus is_u =
      let e_in : IsVector S d e = subst (IsVector S d) (sym is_e) unit-vector in
      let a_in = span_vector S F d vs res.added V res.in_span in
      let mr_in = multiple-vector S F d m r m_in res.vector in
      let u_in : IsVector S d u = subst (IsVector S d) (sym is_u) (vector_sum-vector S F d e (multiple S m r) e_in mr_in) in
      let t = tuple S F d in
      let s = space S F d in
      let min = (scalar_field S F).minus in
      let tuple_r : t (multiple S m r) ≡ s.◌·◌ min (s.◌⊕◌ (t e) (t res.added)) = tuple-multiple S F d m r m_in res.vector ∙ ap₂ s.◌·◌ (element-minus S F m m_in minus) (ap t res.sum ∙ tuple-sum S F d e res.added e_in a_in) in
      let is_multiple : u ≡ multiple S m res.added =
      list-is S F d u u_in (ap t is_u ∙ tuple-sum S F d e (multiple S m r) e_in mr_in ∙ ap (s.◌⊕◌ (t e)) tuple_r ∙ less_residue (scalar_field S F) s (t e) (t res.added)
      ∙ ap (λ c. s.◌·◌ c (t res.added)) (sym (element-minus S F m m_in minus))) ∙ list-multiple S F d m res.added m_in a_in in
      let entry : (q : ℕ) → IsLeading S d vs q → get_or u q 0 ≡ get_or (set (zero_vector S d) p S.one) q 0 = λ q k.
      let q_in : q < d = subst (λ n. q < n) k.vector.length_is k.leads.within in
      ap (λ v. get_or v q 0) is_u
      ∙ entry-sum S e (multiple S m r) q (subst (λ n. q < n) (sym e_in.length_is) q_in) (subst (λ n. q < n) (sym mr_in.length_is) q_in)
      ∙ ap (S.sum (get_or e q 0)) (entry-multiple S m r q (subst (λ n. q < n) (sym res.vector.length_is) q_in) ∙ ap (S.product m) (res.reduced q k) ∙ product-zero S F m m_in)
      ∙ F.sum-zero (get_or e q 0) (entry-scalar S F d e q e_in q_in) ∙ ap (λ v. get_or v q 0) is_e in
      record {
        vector = u_in;
        in_span = rw is_multiple (span_multiple S F d vs m res.added V m_in a_in res.in_span);
        one = λ k. entry p k ∙ get_or-set_same (zero_vector S d) p S.one 0 (subst (λ n. p < n) (sym (length-replicate d S.zero)) l);
        zero = λ q k n. entry q k ∙ get_or-set_other (zero_vector S d) p q S.one 0 n ∙ get_or-replicate d q S.zero 0 (subst (λ n. q < n) k.vector.length_is k.leads.within);
      }

-- as the call makes it: n is the dimension, e' and r' are what is seen of the unit vector and of its residue, o is one
pub row_made : (S : Scalars) (F : IsField S) (d : ℕ) (vs : List (List ℕ)) (V : AreVectors S d vs) (p n : ℕ) (e e' r r' u : List ℕ) (o m : ℕ) → n ≡ d → p < n → e ≡ set (zero_vector S n) p S.one → e' ≡ e → IsResidue S d vs e' r → r' ≡ r → IsScalar S m → o ≡ S.one → S.sum o m ≡ S.zero
    → u ≡ vector_sum S e (multiple S m r') → IsRowAt S d vs p u
row_made S F d vs V p n e e' r r' u o m is_d l is_e seen_e res seen_r m_in is_o minus is_u =
    row_is_at S F d vs V p (subst (λ k. p < k) is_d l) e r u m (is_e ∙ ap (λ k. set (zero_vector S k) p S.one) is_d)
    (subst (λ v. IsResidue S d vs v r) seen_e res) m_in (ap (λ a. S.sum a m) (sym is_o) ∙ minus)
    (is_u ∙ ap (λ v. vector_sum S e (multiple S m v)) seen_r)

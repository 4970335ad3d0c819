-- The entries of sums, multiples and combinations.
use Rattle.std.proofs.Common.{◌≡◌, ◌≢◌, ℕ, zero, suc, ◌<◌, ◌⊎◌, inl, inr, List, [], ◌∷◌, length, get_or, refl, sym, ap, ap₂, ◌∙◌, subst, arith, All}
use Rattle.std.proofs.lemmas.List.{get_or-map, get_or-replicate}
use Rattle.std.proofs.lemmas.List.Elements.{All-head, All-tail}
use Rattle.linear_algebra.specs.Scalars.{Scalars, IsScalar, IsField}
use Rattle.linear_algebra.specs.Vectors.{IsVector, AreVectors, vector_sum, multiple}
use Rattle.linear_algebra.specs.Spans.{combination}
use Rattle.linear_algebra.proofs.Combinations.{combination-vector}
use Rattle.linear_algebra.proofs.Elements.{product-zero}
use Rattle.linear_algebra.proofs.VectorLaws.{multiple-vector}
use Rattle.echelon.proofs.Transfers.{entry-scalar}

module _ (S : Scalars) where
  pub entry-sum : (u v : List ℕ) (p : ℕ) → p < length u → p < length v → get_or (vector_sum S u v) p 0 ≡ S.sum (get_or u p 0) (get_or v p 0)
  unfolding vector_sum
  entry-sum [] v p h k = absurd (omega arith)
  entry-sum (a ∷ u) [] p h k = absurd (omega arith)
  entry-sum (a ∷ u) (b ∷ v) zero h k = refl
  entry-sum (a ∷ u) (b ∷ v) (suc p) h k = entry-sum u v p (omega arith) (omega arith)

  pub entry-multiple : (c : ℕ) (v : List ℕ) (p : ℕ) → p < length v → get_or (multiple S c v) p 0 ≡ S.product c (get_or v p 0)
  entry-multiple c v p h = get_or-map (λ a. S.product c a) v p 0 0 h

module _ (S : Scalars) (F : IsField S) (d : ℕ) (q : ℕ) (l : q < d) where
  within : (v : List ℕ) → IsVector S d v → q < length v
  within v h = subst (λ n. q < n) (sym h.length_is) l

  -- an entry of a combination of vectors, of which one is in front
  entry-combination : (c : ℕ) (cs v : List ℕ) (vs : List (List ℕ)) → All (IsScalar S) (c ∷ cs) → AreVectors S d (v ∷ vs) →
      get_or (combination S d (c ∷ cs) (v ∷ vs)) q 0 ≡ S.sum (S.product c (get_or v q 0)) (get_or (combination S d cs vs) q 0)
  unfolding combination
  entry-combination c cs v vs h k =
      let v_in = All-head (IsVector S d) v vs k in
      let m_in = multiple-vector S F d c v (All-head (IsScalar S) c cs h) v_in in
      let rest = combination-vector S F d cs vs (All-tail (IsScalar S) c cs h) (All-tail (IsVector S d) v vs k) in
      entry-sum S (multiple S c v) (combination S d cs vs) q (within (multiple S c v) m_in) (within (combination S d cs vs) rest) ∙ ap (λ a. S.sum a (get_or (combination S d cs vs) q 0)) (entry-multiple S c v q (within v v_in))

  -- where each vector has a zero or its coefficient is zero, the combination has a zero
  pub zero_entry : (cs : List ℕ) (vs : List (List ℕ)) → All (IsScalar S) cs → AreVectors S d vs → length cs ≡ length vs →
      ((j : ℕ) → j < length vs → (get_or cs j 0 ≡ S.zero) ⊎ (get_or (get_or vs j []) q 0 ≡ S.zero)) → get_or (combination S d cs vs) q 0 ≡ S.zero
  unfolding combination
  zero_entry [] vs h k e z = get_or-replicate d q S.zero 0 l
  zero_entry (c ∷ cs) [] h k e z = absurd (omega arith)
  zero_entry (c ∷ cs) (v ∷ vs) h k e z =
      let v_in = All-head (IsVector S d) v vs k in
      let c_in = All-head (IsScalar S) c cs h in
      let a_in = entry-scalar S F d v q v_in l in
      let first : S.product c (get_or v q 0) ≡ S.zero = elim (z 0 (omega arith)) [ inl i ↦ ap (λ a. S.product a (get_or v q 0)) i ∙ F.product_comm S.zero (get_or v q 0) F.zero_in a_in ∙ product-zero S F (get_or v q 0) a_in | inr i ↦ ap (S.product c) i ∙ product-zero S F c c_in ] in
      entry-combination c cs v vs h k
      ∙ ap₂ S.sum first (zero_entry cs vs (All-tail (IsScalar S) c cs h) (All-tail (IsVector S d) v vs k) (omega arith) (λ j m. z (suc j) (omega arith)))
      ∙ F.sum-zero S.zero F.zero_in

  -- where only the vector at i has an entry, the combination has the coefficient's multiple of it
  pub only_entry : (cs : List ℕ) (vs : List (List ℕ)) (i : ℕ) → All (IsScalar S) cs → AreVectors S d vs → length cs ≡ length vs → i < length vs →
      ((j : ℕ) → j < length vs → j ≢ i → get_or (get_or vs j []) q 0 ≡ S.zero) → get_or (combination S d cs vs) q 0 ≡ S.product (get_or cs i 0) (get_or (get_or vs i []) q 0)
  only_entry cs [] i h k e m z = absurd (omega arith)
  only_entry [] (v ∷ vs) i h k e m z = absurd (omega arith)
  only_entry (c ∷ cs) (v ∷ vs) zero h k e m z =
      let a_in = F.product_in c (get_or v q 0) (All-head (IsScalar S) c cs h) (entry-scalar S F d v q (All-head (IsVector S d) v vs k) l) in
      entry-combination c cs v vs h k
      ∙ ap (S.sum (S.product c (get_or v q 0))) (zero_entry cs vs (All-tail (IsScalar S) c cs h) (All-tail (IsVector S d) v vs k) (omega arith) (λ j n. inr (z (suc j) (omega arith) (omega arith))))
      ∙ F.sum-zero (S.product c (get_or v q 0)) a_in
  only_entry (c ∷ cs) (v ∷ vs) (suc i) h k e m z =
      let c_in = All-head (IsScalar S) c cs h in
      let rest_in = combination-vector S F d cs vs (All-tail (IsScalar S) c cs h) (All-tail (IsVector S d) v vs k) in
      let rest_at = entry-scalar S F d (combination S d cs vs) q rest_in l in
      entry-combination c cs v vs h k
      ∙ ap (λ a. S.sum a (get_or (combination S d cs vs) q 0)) (ap (S.product c) (z 0 (omega arith) (omega arith)) ∙ product-zero S F c c_in)
      ∙ F.sum_comm S.zero (get_or (combination S d cs vs) q 0) F.zero_in rest_at ∙ F.sum-zero (get_or (combination S d cs vs) q 0) rest_at
      ∙ only_entry cs vs i (All-tail (IsScalar S) c cs h) (All-tail (IsVector S d) v vs k) (omega arith) (omega arith) (λ j n o. z (suc j) (omega arith) (omega arith))

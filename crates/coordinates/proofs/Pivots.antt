-- A vector comes into a basis at a place where its coordinate isn't zero: the list stays a basis, and coordinates are pivoted.
use Rattle.std.proofs.Common.{◌≡◌, ◌≢◌, ℕ, ◌<◌, List, [], ◌∷◌, length, get_or, set, refl, sym, ap, ap₂, ◌∙◌, subst, All}
use Rattle.std.proofs.lemmas.List.{length-set, set-get_or, get_or-set_same, get_or-replicate}
use Rattle.std.proofs.lemmas.List.Elements.{All-head, All-tail, All-set, All-get_or}
use Rattle.linear_algebra.specs.Scalars.{Scalars, IsScalar, IsField}
use Rattle.linear_algebra.specs.Vectors.{IsVector, AreVectors, zero_vector, vector_sum, multiple}
use Rattle.linear_algebra.specs.Spans.{combination, Combines}
use Rattle.linear_algebra.proofs.Elements.{product-zero}
use Rattle.linear_algebra.proofs.VectorLaws.{multiple-vector, vector_sum-vector, vector_sum-zero}
use Rattle.linear_algebra.proofs.Combinations.{combination-sum, combination-multiple, combination-vector}
use Rattle.echelon.proofs.Entries.{entry-sum, entry-multiple}
use Rattle.coordinates.specs.Bases.{IsBasis, IsPivoted}
use Rattle.coordinates.proofs.Replacements.{combination-set}

module _ (S : Scalars) (F : IsField S) where
  -- a factor of zero beside one that isn't zero
  pub factor_zero : (a b : ℕ) → IsScalar S a → IsScalar S b → b ≢ S.zero → S.product a b ≡ S.zero → a ≡ S.zero
  factor_zero a b h k n e =
      let r = F.inverse b k n in
      sym (F.product-one a h) ∙ ap (S.product a) (sym r.2) ∙ sym (F.product_assoc a b r.0 h k r.1) ∙ ap (λ x. S.product x r.0) e
      ∙ F.product_comm S.zero r.0 F.zero_in r.1 ∙ product-zero S F r.0 r.1

  pub zero_multiple : (v : List ℕ) → All (IsScalar S) v → multiple S S.zero v ≡ zero_vector S (length v)
  zero_multiple [] h = refl
  zero_multiple (a ∷ v) h =
      let a_in = All-head (IsScalar S) a v h in
      ap₂ (λ x y. x ∷ y) (F.product_comm S.zero a F.zero_in a_in ∙ product-zero S F a a_in) (zero_multiple v (All-tail (IsScalar S) a v h))

  pub set-vector : (n i a : ℕ) (v : List ℕ) → IsVector S n v → IsScalar S a → IsVector S n (set v i a)
  set-vector n i a v h k = record { length_is = length-set v i a ∙ h.length_is; entries = All-set (IsScalar S) v i a k h.entries }

  pub within_vector : (n i : ℕ) (v : List ℕ) → IsVector S n v → i < n → i < length v
  within_vector n i v h l = subst (λ m. i < m) (sym h.length_is) l

  pub entry_in : (n i : ℕ) (v : List ℕ) → IsVector S n v → i < n → IsScalar S (get_or v i 0)
  entry_in n i v h l = All-get_or (IsScalar S) v i 0 (within_vector n i v h l) h.entries

  module _ (d : ℕ) where
    -- the coordinates before and after combine to the same vector
    pub pivoted-combination : (vs : List (List ℕ)) (i : ℕ) (ts cs ds y : List ℕ) → AreVectors S d vs → i < length vs →
        Combines S d vs ts y → IsVector S (length vs) ds →
        vector_sum S (set ds i S.zero) (multiple S (get_or ds i 0) ts) ≡ cs → combination S d ds (set vs i y) ≡ combination S d cs vs
    pivoted-combination vs i ts cs ds y h l t k e =
        let n = length vs in
        let q = get_or ds i 0 in
        let q_in = entry_in n i ds k l in
        let y_in : IsVector S d y = subst (IsVector S d) t.gives (combination-vector S F d ts vs t.one_each.entries h) in
        combination-set S F d ds vs i y k h y_in l
        ∙ ap (vector_sum S (combination S d (set ds i S.zero) vs)) (ap (multiple S q) (sym t.gives) ∙ sym (combination-multiple S F d n q ts vs q_in t.one_each h))
        ∙ sym (combination-sum S F d n (set ds i S.zero) (multiple S q ts) vs (set-vector n i S.zero ds k F.zero_in) (multiple-vector S F n q ts q_in t.one_each) h)
        ∙ ap (λ c. combination S d c vs) e

    pub pivot_combines : (vs : List (List ℕ)) (i : ℕ) (ts cs ds y x : List ℕ) → AreVectors S d vs → i < length vs →
        Combines S d vs ts y → Combines S d vs cs x →
        IsPivoted S i ts cs ds → Combines S d (set vs i y) ds x
    pivot_combines vs i ts cs ds y x h l t c p =
        let k : IsVector S (length vs) ds = subst (λ n. IsVector S n ds) c.one_each.length_is p.is_vector in record {
          one_each = subst (λ n. IsVector S n ds) (sym (length-set vs i y)) k;
          gives = pivoted-combination vs i ts cs ds y h l t k p.gives ∙ c.gives;
        }

    -- only zeros combine the new list to zero
    only_zeros : (vs : List (List ℕ)) (i : ℕ) (ts ds y : List ℕ) → IsBasis S d vs → i < length vs → Combines S d vs ts y →
        get_or ts i 0 ≢ S.zero → IsVector S (length vs) ds →
        combination S d ds (set vs i y) ≡ zero_vector S d → ds ≡ zero_vector S (length vs)
    only_zeros vs i ts ds y b l t m k e =
        let n = length vs in
        let q = get_or ds i 0 in
        let q_in = entry_in n i ds k l in
        let zs = set ds i S.zero in
        let zs_in : IsVector S n zs = set-vector n i S.zero ds k F.zero_in in
        let qt_in : IsVector S n (multiple S q ts) = multiple-vector S F n q ts q_in t.one_each in
        let sum_in : IsVector S n (vector_sum S zs (multiple S q ts)) = vector_sum-vector S F n zs (multiple S q ts) zs_in qt_in in
        let zeros : vector_sum S zs (multiple S q ts) ≡ zero_vector S n = b.independent (vector_sum S zs (multiple S q ts))
        (record { one_each = sum_in; gives = sym (pivoted-combination vs i ts _ ds y b.vectors l t k refl) ∙ e }) in
        let p = S.product q (get_or ts i 0) in
        let p_in = F.product_in q (get_or ts i 0) q_in (entry_in n i ts t.one_each l) in
        let at : p ≡ S.zero =
        sym (F.sum-zero p p_in) ∙ F.sum_comm p S.zero p_in F.zero_in
        ∙ sym (ap₂ S.sum (get_or-set_same ds i S.zero 0 (within_vector n i ds k l)) (entry-multiple S q ts i (within_vector n i ts t.one_each l)))
        ∙ sym (entry-sum S zs (multiple S q ts) i (within_vector n i zs zs_in l) (within_vector n i (multiple S q ts) qt_in l))
        ∙ ap (λ v. get_or v i 0) zeros ∙ get_or-replicate n i S.zero 0 l in
        let q_zero : q ≡ S.zero = factor_zero q (get_or ts i 0) q_in (entry_in n i ts t.one_each l) m at in
        let zs_zero : zs ≡ zero_vector S n =
        sym (vector_sum-zero S F n zs zs_in)
        ∙ ap (vector_sum S zs) (sym (ap (λ c. multiple S c ts) q_zero ∙ zero_multiple ts t.one_each.entries ∙ ap (zero_vector S) t.one_each.length_is))
        ∙ zeros in
        sym (set-get_or ds i 0) ∙ ap (set ds i) q_zero ∙ zs_zero

    pub pivot_basis : (vs : List (List ℕ)) (i : ℕ) (ts y : List ℕ) → IsBasis S d vs → i < length vs → Combines S d vs ts y →
        get_or ts i 0 ≢ S.zero → IsBasis S d (set vs i y)
    pivot_basis vs i ts y b l t m = record {
      vectors = All-set (IsVector S d) vs i y (subst (IsVector S d) t.gives (combination-vector S F d ts vs t.one_each.entries b.vectors)) b.vectors;
      length_is = length-set vs i y ∙ b.length_is;
      independent = λ ds c. only_zeros vs i ts ds y b l t m (subst (λ n. IsVector S n ds) (length-set vs i y) c.one_each) c.gives ∙ ap (zero_vector S) (sym (length-set vs i y));
    }

-- One list of coordinates is pivoted: a multiple of the incoming vector's coordinates is taken away.
use Rattle.std.proofs.Common.{◌≡◌, ℕ, ◌<◌, List, [], ◌∷◌, length, get_or, set, refl, sym, ap, ap₂, ◌∙◌, subst, All}
use Rattle.std.proofs.lemmas.List.{set-set, set-get_or, get_or-set_same}
use Rattle.std.proofs.lemmas.List.Elements.{All-head, All-tail}
use Rattle.linear_algebra.specs.Scalars.{Scalars, IsScalar, IsField}
use Rattle.linear_algebra.specs.Vectors.{IsVector, zero_vector, vector_sum, multiple}
use Rattle.linear_algebra.proofs.Elements.{product-zero}
use Rattle.linear_algebra.proofs.VectorLaws.{multiple-vector, vector_sum-vector, vector_sum-zero, vector_sum_assoc}
use Rattle.echelon.proofs.Entries.{entry-sum, entry-multiple}
use Rattle.coordinates.specs.Bases.{IsPivoted}
use Rattle.coordinates.proofs.Pivots.{set-vector, within_vector, entry_in, zero_multiple}

module _ (S : Scalars) (F : IsField S) where
  zero_times : (a : ℕ) → IsScalar S a → S.product S.zero a ≡ S.zero
  zero_times a h = F.product_comm S.zero a F.zero_in h ∙ product-zero S F a h

  -- the shares of opposite scalars cancel
  opposite_shares : (q m a : ℕ) → IsScalar S q → IsScalar S m → IsScalar S a → S.sum q m ≡ S.zero → S.sum (S.product q a) (S.product m a) ≡ S.zero
  opposite_shares q m a h k l e =
      ap₂ S.sum (F.product_comm q a h l) (F.product_comm m a k l) ∙ sym (F.product-sum a q m l h k) ∙ ap (S.product a) e ∙ product-zero S F a l

  opposites : (q m : ℕ) (v : List ℕ) → IsScalar S q → IsScalar S m → All (IsScalar S) v → S.sum q m ≡ S.zero →
      vector_sum S (multiple S m v) (multiple S q v) ≡ zero_vector S (length v)
  unfolding vector_sum
  opposites q m [] h k l e = refl
  opposites q m (a ∷ v) h k l e =
      let a_in = All-head (IsScalar S) a v l in
      ap₂ (λ x xs. x ∷ xs) (opposite_shares m q a k h a_in (F.sum_comm m q k h ∙ e)) (opposites q m v h k (All-tail (IsScalar S) a v l) e)

  module _ (n i : ℕ) (ts cs : List ℕ) (a : ℕ) (t_in : IsVector S n ts) (c_in : IsVector S n cs) (l : i < n) (a_in : IsScalar S a)
      (inverse : S.product (get_or ts i 0) a ≡ S.one) where
    share_in : IsScalar S (S.product (get_or cs i 0) a)
    share_in = F.product_in (get_or cs i 0) a (entry_in S F n i cs c_in l) a_in

    -- the share times the incoming entry is the entry
    share-times : S.product (S.product (get_or cs i 0) a) (get_or ts i 0) ≡ get_or cs i 0
    share-times =
        let c = get_or cs i 0 in
        let t = get_or ts i 0 in
        let c_is = entry_in S F n i cs c_in l in
        let t_is = entry_in S F n i ts t_in l in
        F.product_assoc c a t c_is a_in t_is ∙ ap (S.product c) (F.product_comm a t a_in t_is ∙ inverse) ∙ F.product-one c c_is

    -- a list with zero there stays
    pub pivot_none : (c q : ℕ) → c ≡ get_or cs i 0 → q ≡ S.product c a → q ≡ S.zero → IsPivoted S i ts cs cs
    pivot_none c q is_c is_q z =
        let none : S.product (get_or cs i 0) a ≡ S.zero = ap (λ x. S.product x a) (sym is_c) ∙ sym is_q ∙ z in
        let at : get_or cs i 0 ≡ S.zero = sym share-times ∙ ap (λ x. S.product x (get_or ts i 0)) none ∙ zero_times (get_or ts i 0) (entry_in S F n i ts t_in l) in
        record {
          is_vector = subst (λ m. IsVector S m cs) (sym c_in.length_is) c_in;
          gives =
              ap₂ (vector_sum S) (ap (set cs i) (sym at) ∙ set-get_or cs i 0)
              (ap (λ x. multiple S x ts) at ∙ zero_multiple S F ts t_in.entries ∙ ap (zero_vector S) t_in.length_is)
              ∙ vector_sum-zero S F n cs c_in;
        }

    -- else the share of the incoming list is taken away, and stands there
    module _ (c q m : ℕ) (w : List ℕ) (is_c : c ≡ get_or cs i 0) (is_q : q ≡ S.product c a) (m_in : IsScalar S m) (e : S.sum q m ≡ S.zero)
        (is_w : w ≡ vector_sum S cs (multiple S m ts)) where
      is_share : q ≡ S.product (get_or cs i 0) a
      is_share = is_q ∙ ap (λ x. S.product x a) is_c

      mt_in : IsVector S n (multiple S m ts)
      mt_in = multiple-vector S F n m ts m_in t_in

      w_in : IsVector S n w
      w_in = subst (IsVector S n) (sym is_w) (vector_sum-vector S F n cs (multiple S m ts) c_in mt_in)

      pub less_share_long : i < length w
      less_share_long = within_vector S F n i w w_in l

      pub pivot_one : (ds : List ℕ) → ds ≡ set w i q → IsPivoted S i ts cs ds
      pivot_one ds is_ds =
          let q_in : IsScalar S q = subst (IsScalar S) (sym is_share) share_in in
          let t_is = entry_in S F n i ts t_in l in
          let qt_in : IsVector S n (multiple S q ts) = multiple-vector S F n q ts q_in t_in in
          let w_zero : get_or w i 0 ≡ S.zero =
          ap (λ x. get_or x i 0) is_w
          ∙ entry-sum S cs (multiple S m ts) i (within_vector S F n i cs c_in l) (within_vector S F n i (multiple S m ts) mt_in l)
          ∙ ap₂ S.sum (sym (ap (λ x. S.product x (get_or ts i 0)) is_share ∙ share-times)) (entry-multiple S m ts i (within_vector S F n i ts t_in l))
          ∙ opposite_shares q m (get_or ts i 0) q_in m_in t_is e in
          let cleared : set ds i S.zero ≡ w = ap (λ x. set x i S.zero) is_ds ∙ set-set w i q S.zero ∙ ap (set w i) (sym w_zero) ∙ set-get_or w i 0 in
          let at : get_or ds i 0 ≡ q = ap (λ x. get_or x i 0) is_ds ∙ get_or-set_same w i q 0 less_share_long in
          record {
            is_vector = subst (λ x. IsVector S (length cs) x) (sym is_ds) (subst (λ k. IsVector S k (set w i q)) (sym c_in.length_is) (set-vector S F n i q w w_in q_in));
            gives =
                ap₂ (λ x y. vector_sum S x (multiple S y ts)) (cleared ∙ is_w) at
                ∙ vector_sum_assoc S F n cs (multiple S m ts) (multiple S q ts) c_in mt_in qt_in
                ∙ ap (vector_sum S cs) (opposites q m ts q_in m_in t_in.entries e ∙ ap (zero_vector S) t_in.length_is)
                ∙ vector_sum-zero S F n cs c_in;
          }

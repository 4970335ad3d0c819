-- Vectors whose first entry that isn't zero is one, as multiples of a vector.
use Rattle.std.proofs.Common.{◌≡◌, ◌≢◌, ℕ, ◌<◌, List, [], ◌∷◌, length, map, get_or, refl, sym, ap, ap₂, ◌∙◌, subst, arith, All}
use Rattle.std.proofs.Math.Decide.{dec_lt}
use Rattle.std.proofs.lemmas.List.{length-map, length-replicate, get_or-map, get_or-replicate}
use Rattle.std.proofs.lemmas.List.Elements.{All-head, All-map, All-tail}
use Rattle.linear_algebra.specs.Scalars.{Scalars, IsScalar, IsField}
use Rattle.linear_algebra.specs.Vectors.{multiple, zero_vector}
use Rattle.linear_algebra.proofs.Elements.{product-zero}
use Rattle.linear_algebra.proofs.VectorLaws.{multiple-one}
use Rattle.echelon.specs.Leads.{LeadsAt}
use Rattle.parity_lines.specs.Relations.{IsLeadInverse, IsMonicMultiple}

-- the inverse of the entry at which a vector leads
pub lead_inverse_of : (S : Scalars) (v : List ℕ) (p x b : ℕ) → LeadsAt S v p → x ≡ get_or v p 0 → S.product x b ≡ S.one → IsLeadInverse S v b
lead_inverse_of S v p x b l e one = record {
  lead = p;
  within = l.within;
  inverse = ap (λ t. S.product t b) (sym e) ∙ one;
  zero_before = l.zero_before;
}

-- entries of lists with the same numbers
pub same_entries : {X : Type 0} (f : X → ℕ) (v w : List X) (i : ℕ) (x y : X) → i < length v → i < length w → x ≡ get_or v i x →
    y ≡ get_or w i y → map f v ≡ map f w → f x ≡ f y
same_entries f v w i x y h k is_x is_y e = ap f is_x ∙ sym (get_or-map f v i x 0 h) ∙ ap (λ u. get_or u i 0) e ∙ get_or-map f w i y 0 k
    ∙ sym (ap f is_y)

-- zeros of a length that is known
pub zero_of_length : (S : Scalars) (d : ℕ) (v : List ℕ) → length v ≡ d → v ≡ zero_vector S (length v) → v ≡ zero_vector S d
zero_of_length S d v l e = e ∙ ap (zero_vector S) l

module _ (S : Scalars) (F : IsField S) where
  pub multiple_multiple : (c k : ℕ) (v : List ℕ) → IsScalar S c → IsScalar S k → All (IsScalar S) v →
      multiple S c (multiple S k v) ≡ multiple S (S.product c k) v
  multiple_multiple c k [] hc hk h = refl
  multiple_multiple c k (x ∷ v) hc hk h = ap₂ (λ a w. a ∷ w) (sym (F.product_assoc c k x hc hk (All-head (IsScalar S) x v h)))
      (multiple_multiple c k v hc hk (All-tail (IsScalar S) x v h))

  zero_times : (x : ℕ) → IsScalar S x → S.product S.zero x ≡ S.zero
  zero_times x h = F.product_comm S.zero x F.zero_in h ∙ product-zero S F x h

  entry : (c : ℕ) (v : List ℕ) (k : ℕ) → k < length v → get_or (multiple S c v) k 0 ≡ S.product c (get_or v k 0)
  entry c v k h = get_or-map (S.product c) v k 0 0 h

  -- a vector is a multiple of its monic multiple
  pub of_monic : (v w : List ℕ) → All (IsScalar S) v → IsMonicMultiple S v w → (k : ℕ) × IsScalar S k × (v ≡ multiple S k w)
  of_monic v w h r = (
    b.0,
    b.1,
    sym (ap (multiple S b.0) r.is_multiple ∙ multiple_multiple b.0 r.factor v b.1 r.factor_in h
        ∙ ap (λ a. multiple S a v) (F.product_comm b.0 r.factor b.1 r.factor_in ∙ b.2) ∙ multiple-one S F v h),
  )
    where
      long : length w ≡ length v
      long = ap length r.is_multiple ∙ length-map v (S.product r.factor)

      in_v : r.lead < length v
      in_v = let e = r.within in let l = long in omega arith

      not_zero : r.factor ≢ S.zero
      not_zero e = F.one≢zero (sym r.one ∙ ap (λ u. get_or u r.lead 0) r.is_multiple ∙ entry r.factor v r.lead in_v
          ∙ ap (λ a. S.product a (get_or v r.lead 0)) e ∙ zero_times (get_or v r.lead 0) (h r.lead 0 in_v))

      b : (b : ℕ) × IsScalar S b × (S.product r.factor b ≡ S.one)
      b = F.inverse r.factor r.factor_in not_zero

  -- a vector with a monic multiple isn't zero
  pub not_zero_of_monic : (d : ℕ) (v w : List ℕ) → IsMonicMultiple S v w → v ≢ zero_vector S d
  not_zero_of_monic d v w r z = F.one≢zero (sym r.one ∙ ap (λ u. get_or u r.lead 0) r.is_multiple ∙ entry r.factor v r.lead in_v
      ∙ ap (S.product r.factor) (ap (λ u. get_or u r.lead 0) z ∙ get_or-replicate d r.lead S.zero 0 in_d) ∙ product-zero S F r.factor r.factor_in)
    where
      in_v : r.lead < length v
      in_v = let e = r.within in let l = ap length r.is_multiple ∙ length-map v (S.product r.factor) in omega arith

      in_d : r.lead < d
      in_d = let h = in_v in let l = ap length z ∙ length-replicate d S.zero in omega arith

  pub monic_entries : (v w : List ℕ) → All (IsScalar S) v → IsMonicMultiple S v w → All (IsScalar S) w
  monic_entries v w h r = subst (All (IsScalar S)) (sym r.is_multiple)
      (All-map (IsScalar S) (S.product r.factor) v (λ j d b. F.product_in r.factor (get_or v j d) r.factor_in (h j d b)))

  -- monic vectors of which one is a multiple of the other are the same
  pub same_monics : (u v a b : List ℕ) (k : ℕ) → All (IsScalar S) b → IsScalar S k → a ≡ multiple S k b → IsMonicMultiple S u a →
      IsMonicMultiple S v b → a ≡ b
  same_monics u v a b k hb hk e r q = go (dec_lt r.lead q.lead) (dec_lt q.lead r.lead)
    where
      long : length a ≡ length b
      long = ap length e ∙ length-map b (S.product k)

      at : (i : ℕ) → i < length b → get_or a i 0 ≡ S.product k (get_or b i 0)
      at i h = ap (λ t. get_or t i 0) e ∙ entry k b i h

      lead_in : r.lead < length b
      lead_in = let w = r.within in let l = long in omega arith

      -- k is what a has where b is one
      factor_is : k ≡ get_or a q.lead 0
      factor_is = sym (F.product-one k hk) ∙ ap (S.product k) (sym q.one) ∙ sym (at q.lead q.within)

      go : Dec (r.lead < q.lead) → Dec (q.lead < r.lead) → a ≡ b
      go (yes l) d = absurd (F.one≢zero (sym r.one ∙ at r.lead lead_in ∙ ap (S.product k) (q.zero_before r.lead l) ∙ product-zero S F k hk))
      go (no l) (yes m) = absurd (F.one≢zero (sym r.one ∙ at r.lead lead_in
          ∙ ap (λ c. S.product c (get_or b r.lead 0)) (factor_is ∙ r.zero_before q.lead m) ∙ zero_times (get_or b r.lead 0) (hb r.lead 0 lead_in)))
      go (no l) (no m) =
          let same : q.lead ≡ r.lead = omega arith in
          e ∙ ap (λ c. multiple S c b) (factor_is ∙ ap (λ t. get_or a t 0) same ∙ r.one) ∙ multiple-one S F b hb

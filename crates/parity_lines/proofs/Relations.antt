-- Relations of vectors, and multiples that begin with one.
use Rattle.std.proofs.Common.{◌≡◌, ◌≢◌, ℕ, ◌+◌, ◌*◌, ◌<◌, List, [], ◌∷◌, ◌++◌, length, map, take, get_or, replicate, refl, sym, ap, ap₂, ◌∙◌, arith, append_assoc, length-append, All}
use Rattle.std.proofs.lemmas.List.{length-map, map-append, get_or-map, get_or-take, get_or-replicate, take-map, get_or_at, replicate-append-replicate}
use Rattle.linear_algebra.specs.Scalars.{Scalars, IsScalar, IsField}
use Rattle.linear_algebra.specs.Vectors.{zero_vector, multiple}
use Rattle.linear_algebra.proofs.Elements.{product-zero}
use Rattle.parity_lines.specs.Relations.{IsDifference, IsLeadInverse, IsMonicMultiple}

pub lead_inverse_found : (S : Scalars) {X : Type 0} (f : X → ℕ) (v : List X) (i : ℕ) (x y : X) → i < length v → x ≡ get_or v i x → S.product (f x) (f y) ≡ S.one → map f (take i v) ≡ replicate i S.zero → IsLeadInverse S (map f v) (f y)
lead_inverse_found S f v i x y h is_x is_one before = record {
  lead = i;
  within = let e = length-map v f in omega arith;
  inverse = ap (λ a. S.product a (f y)) (get_or-map f v i x 0 h ∙ sym (ap f is_x)) ∙ is_one;
  zero_before = λ k l. sym (get_or-take i (map f v) k 0 l) ∙ ap (λ w. get_or w k 0) (take-map f i v ∙ before) ∙ get_or-replicate i k S.zero 0 l;
}

module _ (S : Scalars) (F : IsField S) where
  pub monic_multiple : (v w : List ℕ) (b : ℕ) → All (IsScalar S) v → IsScalar S b → IsLeadInverse S v b → w ≡ multiple S b v → IsMonicMultiple S v w
  monic_multiple v w b h k r e = record {
    factor = b;
    factor_in = k;
    is_multiple = e;
    lead = r.lead;
    within = let l = r.within in let n = length-map v (λ a. S.product b a) in let m = ap length e in omega arith;
    one = entry r.lead r.within ∙ F.product_comm b (get_or v r.lead 0) k (h r.lead 0 r.within) ∙ r.inverse;
    zero_before = λ j l. entry j (let m = r.within in omega arith) ∙ ap (S.product b) (r.zero_before j l) ∙ product-zero S F b k;
  }
    where
      entry : (j : ℕ) → j < length v → get_or w j 0 ≡ S.product b (get_or v j 0)
      entry j l = ap (λ u. get_or u j 0) e ∙ get_or-map (λ a. S.product b a) v j 0 0 l

  -- minus one is no zero
  pub difference_not_zero : (cs row : List ℕ) (n : ℕ) → IsDifference S cs n row → row ≢ zero_vector S (length row)
  difference_not_zero cs row n d e =
      let k = length cs in
      let long : k < length row = let l = ap length d.is in let m = length-append cs (d.minus ∷ zero_vector S n) in omega arith in
      let is_minus : d.minus ≡ S.zero =
      sym (ap (λ w. get_or w k 0) d.is ∙ get_or_at cs d.minus (zero_vector S n) 0 k refl) ∙ ap (λ w. get_or w k 0) e ∙ get_or-replicate (length row) k S.zero 0 long in
      F.one≢zero (sym (F.sum-zero S.one F.one_in) ∙ ap (S.sum S.one) (sym is_minus) ∙ d.minus_one)

module _ (S : Scalars) where
  -- one more zero
  pub zeros_more : {X : Type 0} (f : X → ℕ) (first : List ℕ) (now after : List X) (a : X) (n : ℕ) → map f now ≡ first ++ zero_vector S n → after ≡ now ++ a ∷ [] → f a ≡ S.zero → map f after ≡ first ++ zero_vector S (n + 1)
  zeros_more f first now after a n so_far is_after is_a =
      ap (map f) is_after ∙ map-append f now (a ∷ []) ∙ ap₂ (λ xs x. xs ++ x ∷ []) so_far is_a
      ∙ append_assoc first (zero_vector S n) (zero_vector S 1) ∙ ap (λ xs. first ++ xs) (replicate-append-replicate n 1 S.zero)

  -- the zeros of the vector's own line, and of the others
  padded : {X : Type 0} (f : X → ℕ) (cs items now own : List X) (minus : X) (half whole : List ℕ) (m n : ℕ) → items ≡ cs → now ≡ items ++ minus ∷ [] → map f own ≡ map f now ++ zero_vector S m → half ≡ map f own ++ zero_vector S n → whole ≡ half ++ zero_vector S n
      → whole ≡ map f cs ++ f minus ∷ zero_vector S (m + 2 * n)
  padded f cs items now own minus half whole m n is_items is_now is_own is_half is_whole =
      is_whole ∙ ap (λ xs. xs ++ zero_vector S n) (is_half ∙ ap (λ xs. xs ++ zero_vector S n) (is_own ∙ ap (λ xs. xs ++ zero_vector S m) (ap (map f) (is_now ∙ ap (λ xs. xs ++ minus ∷ []) is_items) ∙ map-append f cs (minus ∷ []))))
      ∙ ap (λ xs. xs ++ zero_vector S n) (append_assoc (map f cs ++ f minus ∷ []) (zero_vector S m) (zero_vector S n) ∙ ap (λ xs. (map f cs ++ f minus ∷ []) ++ xs) (replicate-append-replicate m n S.zero))
      ∙ append_assoc (map f cs ++ f minus ∷ []) (zero_vector S (m + n)) (zero_vector S n) ∙ ap (λ xs. (map f cs ++ f minus ∷ []) ++ xs) (replicate-append-replicate (m + n) n S.zero)
      ∙ append_assoc (map f cs) (f minus ∷ []) (zero_vector S (m + n + n)) ∙ ap (λ k. map f cs ++ f minus ∷ zero_vector S k) (omega arith)

  -- the difference, from what was put in one after the other
  pub difference_made : {X : Type 0} (f : X → ℕ) (cs none items now own last shown : List X) (one minus : X) (half row : List ℕ) (m n : ℕ) → IsScalar S (f minus) → f one ≡ S.one → S.sum (f one) (f minus) ≡ S.zero
      → none ≡ [] → items ≡ none ++ cs → now ≡ items ++ minus ∷ [] → map f own ≡ map f now ++ zero_vector S m → half ≡ map f own ++ zero_vector S n → map f last ≡ half ++ zero_vector S n → shown ≡ last → row ≡ map f shown
      → IsDifference S (map f cs) (m + 2 * n) row
  difference_made f cs none items now own last shown one minus half row m n minus_in is_one is_minus is_none is_items is_now is_own is_half is_last is_shown is_row = record {
    minus = f minus;
    minus_in = minus_in;
    minus_one = ap (λ a. S.sum a (f minus)) (sym is_one) ∙ is_minus;
    is = is_row ∙ ap (map f) is_shown ∙ padded f cs items now own minus half (map f last) m n (is_items ∙ ap (λ xs. xs ++ cs) is_none) is_now is_own is_half is_last;
  }

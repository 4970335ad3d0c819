-- Pairs that are kept at a ratio, pushed one after the other; the ratio of two pairs.
use Rattle.std.proofs.Common.{◌≡◌, ℕ, ◌+◌, ◌*◌, ◌/◌, ◌<◌, List, [], ◌∷◌, ◌++◌, length, get_or, map, refl, sym, ap, ◌∙◌, subst, arith, length-append, below_more}
use Rattle.std.proofs.Math.Seq.{get_or-append_seam}
use Rattle.std.proofs.lemmas.List.{get_or_append_left, get_or-map, map-append}
use Rattle.linear_algebra.specs.Scalars.{Scalars, IsScalar, IsField}
use Rattle.matching_state.proofs.Products.{entry_read}
use Rattle.overlap.specs.Pairs.{IsKeptAt, AreKept}

-- the first i pairs
pub record AreKeptBelow (S : Scalars) (c : ℕ) (cs ds : List ℕ) (i : ℕ) (ks : List ℕ) : Type 0 where
  pub length_is : length ks ≡ 2 * i
  pub each : (k : ℕ) → k < i → IsKeptAt S c cs ds k (get_or ks (2 * k) 0) (get_or ks (2 * k + 1) 0)

module _ (S : Scalars) (c : ℕ) (cs ds : List ℕ) where
  pub kept_none : AreKeptBelow S c cs ds 0 []
  kept_none = record { length_is = refl; each = λ k h. absurd (omega arith) }

  -- one more
  kept_more : (i : ℕ) (ks : List ℕ) (a b : ℕ) → AreKeptBelow S c cs ds i ks → IsKeptAt S c cs ds i a b →
      AreKeptBelow S c cs ds (i + 1) ((ks ++ a ∷ []) ++ b ∷ [])
  kept_more i ks a b h k = record {
    length_is = let l = h.length_is in let e = length-append (ks ++ a ∷ []) (b ∷ []) in let e' = length-append ks (a ∷ []) in omega arith;
    each = below_more (λ j. IsKeptAt S c cs ds j (get_or ((ks ++ a ∷ []) ++ b ∷ []) (2 * j) 0) (get_or ((ks ++ a ∷ []) ++ b ∷ []) (2 * j + 1) 0)) i
        (λ j l. subst (λ x. IsKeptAt S c cs ds j x (get_or ((ks ++ a ∷ []) ++ b ∷ []) (2 * j + 1) 0)) (sym (before (2 * j) (let e = h.length_is in omega arith)))
        (subst (λ y. IsKeptAt S c cs ds j (get_or ks (2 * j) 0) y) (sym (before (2 * j + 1) (let e = h.length_is in omega arith))) (h.each j l)))
        (subst (λ x. IsKeptAt S c cs ds i x (get_or ((ks ++ a ∷ []) ++ b ∷ []) (2 * i + 1) 0)) (sym here)
        (subst (λ y. IsKeptAt S c cs ds i a y) (sym there) k));
  }
    where
      before : (j : ℕ) → j < length ks → get_or ((ks ++ a ∷ []) ++ b ∷ []) j 0 ≡ get_or ks j 0
      before j l = get_or_append_left (ks ++ a ∷ []) (b ∷ []) 0 j (let e = length-append ks (a ∷ []) in omega arith)
          ∙ get_or_append_left ks (a ∷ []) 0 j l

      here : get_or ((ks ++ a ∷ []) ++ b ∷ []) (2 * i) 0 ≡ a
      here = get_or_append_left (ks ++ a ∷ []) (b ∷ []) 0 (2 * i) (let e = length-append ks (a ∷ []) in let l = h.length_is in omega arith)
          ∙ ap (λ n. get_or (ks ++ a ∷ []) n 0) (sym h.length_is) ∙ get_or-append_seam ks a [] 0

      there : get_or ((ks ++ a ∷ []) ++ b ∷ []) (2 * i + 1) 0 ≡ b
      there = ap (λ n. get_or ((ks ++ a ∷ []) ++ b ∷ []) n 0) (let e = length-append ks (a ∷ []) in let l = h.length_is in omega arith)
          ∙ get_or-append_seam (ks ++ a ∷ []) b [] 0

  -- by values that are pushed
  pub kept_pushed : {X : Type 0} (f : X → ℕ) (i : ℕ) (ks half all : List X) (a b : X) → half ≡ ks ++ a ∷ [] → all ≡ half ++ b ∷ [] →
      AreKeptBelow S c cs ds i (map f ks) → IsKeptAt S c cs ds i (f a) (f b) → AreKeptBelow S c cs ds (i + 1) (map f all)
  kept_pushed f i ks half all a b e e' h k =
      let first : map f half ≡ map f ks ++ f a ∷ [] = ap (map f) e ∙ map-append f ks (a ∷ []) in
      let is : map f all ≡ (map f ks ++ f a ∷ []) ++ f b ∷ [] = ap (map f) e' ∙ map-append f half (b ∷ []) ∙ ap (λ xs. xs ++ f b ∷ []) first in
      subst (AreKeptBelow S c cs ds (i + 1)) (sym is) (kept_more i (map f ks) (f a) (f b) h k)

  -- all pairs
  pub kept_all : (i : ℕ) (ks : List ℕ) → i ≡ length cs / 2 → AreKeptBelow S c cs ds i ks → AreKept S c cs ds ks
  kept_all i ks e h = record {
    length_is = h.length_is ∙ ap (λ n. 2 * n) e;
    each = λ k l. h.each k (let m = h.length_is in omega arith);
  }

  -- as a row that shows them
  pub kept_row : {X : Type 0} (f : X → ℕ) (i : ℕ) (ks shown : List X) (row : List ℕ) → i ≡ length cs / 2 → shown ≡ ks → row ≡ map f shown →
      AreKeptBelow S c cs ds i (map f ks) → AreKept S c cs ds row
  kept_row f i ks shown row e is is_row h = subst (AreKept S c cs ds) (sym (is_row ∙ ap (map f) is)) (kept_all i (map f ks) e h)

-- a b' and a' b are the same, and c is the inverse of a: b times c is the ratio of both pairs
module _ (S : Scalars) (F : IsField S) (a a' b b' c : ℕ) (ha : IsScalar S a) (ha' : IsScalar S a') (hb : IsScalar S b) (hb' : IsScalar S b')
    (hc : IsScalar S c) (inverse : S.product a c ≡ S.one) where
  pub ratio_of_first : b ≡ S.product (S.product b c) a
  ratio_of_first = sym (F.product_assoc b c a hb hc ha ∙ ap (S.product b) (F.product_comm c a hc ha ∙ inverse) ∙ F.product-one b hb)

  pub ratio_of_second : S.product a b' ≡ S.product a' b → b' ≡ S.product (S.product b c) a'
  ratio_of_second e = sym (ap (λ x. S.product x a') (F.product_comm b c hb hc) ∙ F.product_assoc c b a' hc hb ha'
      ∙ ap (S.product c) (F.product_comm b a' hb ha' ∙ sym e) ∙ sym (F.product_assoc c a b' hc ha hb')
      ∙ ap (λ x. S.product x b') (F.product_comm c a hc ha ∙ inverse) ∙ F.product_comm S.one b' F.one_in hb' ∙ F.product-one b' hb')

-- the ratio that is found at index j is one at index k
module _ (S : Scalars) (F : IsField S) {X : Type 0} (f : X → ℕ) (scalar : (x : X) → IsScalar S (f x)) (xs ys : List X) (j k : ℕ)
    (in_j : j < length xs) (in_k : k < length xs) (alike : length ys ≡ length xs) (x y inverse r : X) where
  entry_scalar : (zs : List X) (n : ℕ) → n < length zs → IsScalar S (get_or (map f zs) n 0)
  entry_scalar zs n h = subst (IsScalar S) (sym (get_or-map f zs n x 0 h)) (scalar (get_or zs n x))

  pub ratio_found : x ≡ get_or xs j x → y ≡ get_or ys j y → S.product (f x) (f inverse) ≡ S.one → f r ≡ S.product (f y) (f inverse) →
      S.product (get_or (map f xs) j 0) (get_or (map f ys) k 0) ≡ S.product (get_or (map f xs) k 0) (get_or (map f ys) j 0) →
      (get_or (map f ys) j 0 ≡ S.product (f r) (get_or (map f xs) j 0)) × (get_or (map f ys) k 0 ≡ S.product (f r) (get_or (map f xs) k 0))
  ratio_found is_x is_y one is_r same =
      let a = get_or (map f xs) j 0 in
      let a' = get_or (map f xs) k 0 in
      let b = get_or (map f ys) j 0 in
      let b' = get_or (map f ys) k 0 in
      let ha : IsScalar S a = entry_scalar xs j in_j in
      let ha' : IsScalar S a' = entry_scalar xs k in_k in
      let hb : IsScalar S b = entry_scalar ys j (omega arith) in
      let hb' : IsScalar S b' = entry_scalar ys k (omega arith) in
      let read_x : a ≡ f x = entry_read f xs j x in_j is_x in
      let read_y : b ≡ f y = entry_read f ys j y (omega arith) is_y in
      let inv : S.product a (f inverse) ≡ S.one = ap (λ t. S.product t (f inverse)) read_x ∙ one in
      let ratio : S.product b (f inverse) ≡ f r = ap (λ t. S.product t (f inverse)) read_y ∙ sym is_r in (
        ratio_of_first S F a a' b b' (f inverse) ha ha' hb hb' (scalar inverse) inv ∙ ap (λ t. S.product t a) ratio,
        ratio_of_second S F a a' b b' (f inverse) ha ha' hb hb' (scalar inverse) inv same ∙ ap (λ t. S.product t a') ratio,
      )

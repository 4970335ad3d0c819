-- Lists that increase, and the items of a list with one put behind.
use Rattle.std.proofs.Common.{◌≡◌, ◌≢◌, ℕ, suc, ◌+◌, ◌-◌, ◌<◌, ◌≤◌, ◌⊎◌, inl, inr, List, [], ◌∷◌, ◌++◌, length, get_or, refl, ap, ap₂, ◌∙◌, arith, All, length-append}
use Rattle.std.specs.List.Sorted.{IsStrictlyIncreasing}
use Rattle.std.proofs.lemmas.List.{get_or_append_left, get_or-append_right, get_or_default}
use Rattle.std.proofs.lemmas.List.Elements.{All-get_or}
use Rattle.std.proofs.lemmas.List.Kept.{AllPairs-from_increasing}
use Rattle.std.proofs.Math.Decide.{dec_lt}
use Rattle.vector_spaces.proofs.Members.{In, contains-In}

-- an item is one of those before, or the last
pub get_or-last : {X : Type 0} (xs : List X) (y d : X) (i : ℕ) → i ≡ length xs → get_or (xs ++ y ∷ []) i d ≡ y
get_or-last xs y d i e = get_or-append_right xs (y ∷ []) (length xs) i d refl (omega arith) ∙ ap (λ n. get_or (y ∷ []) n d) (let z : i - length xs ≡ 0 = omega arith in z)

pub first_or_last : {X : Type 0} (xs : List X) (y : X) (i : ℕ) → i < length (xs ++ y ∷ []) → (i < length xs) ⊎ (i ≡ length xs)
first_or_last xs y i h = elim (dec_lt i (length xs)) [ yes l ↦ inl l | no n ↦ inr (let e = length-append xs (y ∷ []) in omega arith) ]

pub increasing_push : (xs : List ℕ) (p : ℕ) → IsStrictlyIncreasing xs → All (λ q. q < p) xs → IsStrictlyIncreasing (xs ++ p ∷ [])
increasing_push xs p h b k l = go (first_or_last xs p (k + 1) l)
  where
    go : (k + 1 < length xs) ⊎ (k + 1 ≡ length xs) → get_or (xs ++ p ∷ []) k 0 < get_or (xs ++ p ∷ []) (k + 1) 0
    go (inl m) =
        let r = h k m in
        let a = get_or_append_left xs (p ∷ []) 0 k (omega arith) in
        let c = get_or_append_left xs (p ∷ []) 0 (k + 1) m in
        omega arith
    go (inr e) =
        let r = All-get_or (λ q. q < p) xs k 0 (omega arith) b in
        let a = get_or_append_left xs (p ∷ []) 0 k (omega arith) in
        let c = get_or-last xs p 0 (k + 1) e in
        omega arith

-- its items differ
pub items_differ : (xs : List ℕ) (i j : ℕ) → IsStrictlyIncreasing xs → i < length xs → j < length xs → i ≢ j → get_or xs i 0 ≢ get_or xs j 0
items_differ xs i j h k l n e = go (dec_lt i j)
  where
    go : Dec (i < j) → ⊥
    go (yes m) = let r = AllPairs-from_increasing xs h i j 0 m l in omega arith
    go (no m) = let r = AllPairs-from_increasing xs h j i 0 (omega arith) k in omega arith

-- lists that increase and have the same members are equal
module _ where
  IsRising : List ℕ → Type 0
  IsRising xs = (i j : ℕ) → i < j → j < length xs → get_or xs i 0 < get_or xs j 0

  rising_tail : (a : ℕ) (xs : List ℕ) → IsRising (a ∷ xs) → IsRising xs
  unfolding IsRising
  rising_tail a xs h i j l m = h (suc i) (suc j) (omega arith) (omega arith)

  head_least : (a : ℕ) (xs : List ℕ) → IsRising (a ∷ xs) → (q : ℕ) → In q xs → a < q
  unfolding IsRising
  head_least a xs h q i = let c = contains-In xs q i in let r = h 0 (suc c.0) (omega arith) (let l = c.1 in omega arith) in let e = get_or_default xs c.0 0 q c.1 ∙ c.2 in omega arith

  same_rising : (xs ys : List ℕ) → IsRising xs → IsRising ys → ((q : ℕ) → In q xs → In q ys) → ((q : ℕ) → In q ys → In q xs) → xs ≡ ys
  same_rising [] [] h k a b = refl
  same_rising [] (y ∷ ys) h k a b = absurd (b y (inl refl))
  same_rising (x ∷ xs) [] h k a b = absurd (a x (inl refl))
  same_rising (x ∷ xs) (y ∷ ys) h k a b = ap₂ (λ p ps. p ∷ ps) same (same_rising xs ys (rising_tail x xs h) (rising_tail y ys k) to from)
    where
      above : (c : ℕ) (zs : List ℕ) → IsRising (c ∷ zs) → (q : ℕ) → In q (c ∷ zs) → c ≤ q
      above c zs r q (inl e) = omega arith
      above c zs r q (inr i) = let l = head_least c zs r q i in omega arith

      same : x ≡ y
      same = let l = above y ys k x (a x (inl refl)) in let m = above x xs h y (b y (inl refl)) in omega arith

      to : (q : ℕ) → In q xs → In q ys
      to q i = elim (a q (inr i)) [ inl e ↦ absurd (let l = head_least x xs h q i in let s = same in omega arith) | inr j ↦ j ]

      from : (q : ℕ) → In q ys → In q xs
      from q i = elim (b q (inr i)) [ inl e ↦ absurd (let l = head_least y ys k q i in let s = same in omega arith) | inr j ↦ j ]

  pub same_increasing : (xs ys : List ℕ) → IsStrictlyIncreasing xs → IsStrictlyIncreasing ys → ((q : ℕ) → In q xs → In q ys) → ((q : ℕ) → In q ys → In q xs) → xs ≡ ys
  unfolding IsRising
  same_increasing xs ys h k a b = same_rising xs ys (λ i j l m. AllPairs-from_increasing xs h i j 0 l m) (λ i j l m. AllPairs-from_increasing ys k i j 0 l m) a b

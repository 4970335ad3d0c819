-- An increasing list with a number put in at its place, and without a number.
use Rattle.std.proofs.Common.{◌≡◌, ◌≢◌, ℕ, zero, suc, ◌+◌, ◌<◌, ◌≤◌, ◌⊎◌, inl, inr, List, [], ◌∷◌, length, get_or, take, drop, true, false, eqb, not, Ok, Err, ap, sym, ◌∙◌, subst, arith}
use Rattle.std.specs.Prelude.{◌↔◌}
use Rattle.std.specs.List.{Contains, insert, filter}
use Rattle.std.specs.List.Sorted.{IsStrictlyIncreasing, IsBinarySearchResult}
use Rattle.std.proofs.lemmas.Bool.{cases_order}
use Rattle.std.proofs.lemmas.Bool.Decides.{eqb_tells}
use Rattle.std.proofs.lemmas.Grind.{get_or_default_zero}
use Rattle.std.proofs.lemmas.List.{take-append-drop}
use Rattle.std.proofs.lemmas.List.Edits.{length-insert, get_or-insert_below, get_or-insert_at, get_or-insert_above}
use Rattle.std.proofs.lemmas.List.Sorted.{searched}
use Rattle.std.specs.Ordering.{nat_cmp}
use Rattle.std.proofs.lemmas.List.Kept.{AllPairs-from_increasing, IsStrictlyIncreasing-filter}
use Rattle.vector_spaces.proofs.Members.{In, contains-In, In-contains}
use Rattle.vector_spaces.proofs.Middles.{middle_in, in_middle}

-- an increasing list does not fall
pub rises : (xs : List ℕ) → IsStrictlyIncreasing xs → (i j : ℕ) → i ≤ j → j < length xs → get_or xs i 0 ≤ get_or xs j 0
rises xs h i j l k = go (eqb_tells i j)
  where
    go : ((eqb i j ≡ true) × (i ≡ j)) ⊎ ((eqb i j ≡ false) × (i ≡ j → ⊥)) → get_or xs i 0 ≤ get_or xs j 0
    go (inl e) = let same = ap (λ n. get_or xs n 0) e.1 in omega arith
    go (inr n) = let apart = n.1 in let below = AllPairs-from_increasing xs h i j 0 (omega arith) k in omega arith

-- x put in between those below and those above
pub increasing-insert : (xs : List ℕ) (i x : ℕ) → IsStrictlyIncreasing xs → i ≤ length xs → ((k : ℕ) → k < i → get_or xs k 0 < x) → ((k : ℕ) → i ≤ k → k < length xs → x < get_or xs k 0) → IsStrictlyIncreasing (insert xs i x)
increasing-insert xs i x h l below above k b = go (cases_order (k + 1) i)
  where
    n : length (insert xs i x) ≡ length xs + 1
    n = length-insert xs i x l

    at_place : (j : ℕ) → i ≡ j → j < length xs → get_or (insert xs i x) j 0 < get_or xs j 0
    at_place j e q = let here = get_or-insert_at xs i x 0 l in subst (λ t. get_or (insert xs i x) t 0 < get_or xs j 0) e (let a = above j (omega arith) q in omega arith)

    after_more : (j : ℕ) → i ≤ j → j + 1 < length xs → get_or (insert xs i x) (j + 1) 0 < get_or xs (j + 1) 0
    after_more j m q = let same = get_or-insert_above xs i x 0 j m l in let up = h j q in omega arith

    after : (j : ℕ) → i ≤ j → j < length xs → get_or (insert xs i x) j 0 < get_or xs j 0
    after zero m q = at_place zero (omega arith) q
    after (suc j) m q = elim (cases_order i (suc j)) [
      | inl e ↦ at_place (suc j) e q
      | inr r ↦ let e : j + 1 ≡ suc j = omega arith in subst (λ t. get_or (insert xs i x) t 0 < get_or xs t 0) e (after_more j (elim r as (λ _. i ≤ j) [ inl e ↦ omega arith | inr e ↦ absurd (omega arith) ]) (omega arith))
    ]

    go : ((k + 1 ≡ i) ⊎ ((k + 1 < i) ⊎ (i < k + 1))) → get_or (insert xs i x) k 0 < get_or (insert xs i x) (k + 1) 0
    go (inl e) = let a = below k (omega arith) in let b = get_or-insert_below xs i x 0 k (omega arith) l in let c : get_or (insert xs i x) (k + 1) 0 ≡ x = ap (λ t. get_or (insert xs i x) t 0) e ∙ get_or-insert_at xs i x 0 l in omega arith
    go (inr (inl e)) = let a = h k (omega arith) in let b = get_or-insert_below xs i x 0 k (omega arith) l in let c = get_or-insert_below xs i x 0 (k + 1) e l in omega arith
    go (inr (inr e)) = let m = n in let a = after k (omega arith) (omega arith) in let b = get_or-insert_above xs i x 0 k (omega arith) l in omega arith

In-insert : (xs : List ℕ) (i x l : ℕ) → In l (x ∷ xs) → In l (insert xs i x)
In-insert xs i x l m = middle_in (take i xs) x (drop i xs) l (subst (λ t. In l (x ∷ t)) (sym (take-append-drop i xs)) m)

insert-In : (xs : List ℕ) (i x l : ℕ) → In l (insert xs i x) → In l (x ∷ xs)
insert-In xs i x l m = subst (λ t. In l (x ∷ t)) (take-append-drop i xs) (in_middle (take i xs) x (drop i xs) l m)

pub contains-insert : (xs : List ℕ) (i x l : ℕ) → Contains (insert xs i x) l ↔ (Contains xs l ⊎ (l ≡ x))
contains-insert xs i x l = (
  λ c. elim (insert-In xs i x l (In-contains (insert xs i x) l c)) [ inl e ↦ inr e | inr m ↦ inl (contains-In xs l m) ],
  λ s. contains-In (insert xs i x) l (In-insert xs i x l (elim s [ inl c ↦ inr (In-contains xs l c) | inr e ↦ inl e ])),
)

In-without : (x : ℕ) (xs : List ℕ) (l : ℕ) → In l xs → l ≢ x → In l (filter (λ y. not (eqb y x)) xs)
In-without x [] l i n = i
In-without x (y ∷ xs) l i n = go (eqb_tells y x) i (λ j. In-without x xs l j n)
  where
    go : ((eqb y x ≡ true) × (y ≡ x)) ⊎ ((eqb y x ≡ false) × (y ≢ x)) → In l (y ∷ xs) → (In l xs → In l (filter (λ z. not (eqb z x)) xs)) → In l (filter (λ z. not (eqb z x)) (y ∷ xs))
    go (inl e) (inl q) ih = absurd (n (q ∙ e.1))
    go (inl e) (inr j) ih = rw e.0 (ih j)
    go (inr e) (inl q) ih = rw e.0 (inl q)
    go (inr e) (inr j) ih = rw e.0 (inr (ih j))

without-In : (x : ℕ) (xs : List ℕ) (l : ℕ) → In l (filter (λ y. not (eqb y x)) xs) → In l xs × (l ≢ x)
without-In x [] l i = absurd i
without-In x (y ∷ xs) l i = go (eqb_tells y x) i (without-In x xs l)
  where
    go : ((eqb y x ≡ true) × (y ≡ x)) ⊎ ((eqb y x ≡ false) × (y ≢ x)) → In l (filter (λ z. not (eqb z x)) (y ∷ xs)) → (In l (filter (λ z. not (eqb z x)) xs) → In l xs × (l ≢ x)) → In l (y ∷ xs) × (l ≢ x)
    go (inl e) j ih = let r = ih (rw e.0 at j) in (inr r.0, r.1)
    go (inr e) j ih = elim (rw e.0 at j) as (λ _. In l (y ∷ xs) × (l ≢ x)) [ inl q ↦ (inl q, λ p. e.1 (sym q ∙ p)) | inr k ↦ let r = ih k in (inr r.0, r.1) ]

pub contains-without : (x : ℕ) (xs : List ℕ) (l : ℕ) → Contains (filter (λ y. not (eqb y x)) xs) l ↔ (Contains xs l × (l ≢ x))
contains-without x xs l = (
  λ c. let r = without-In x xs l (In-contains (filter (λ y. not (eqb y x)) xs) l c) in (contains-In xs l r.0, r.1),
  λ c. contains-In (filter (λ y. not (eqb y x)) xs) l (In-without x xs l (In-contains xs l c.0) c.1),
)

-- ys increases, and has the members of xs, and x
pub record IsWith (xs : List ℕ) (x : ℕ) (ys : List ℕ) : Type 0 where
  pub increasing : IsStrictlyIncreasing ys
  pub lines : (l : ℕ) → Contains ys l ↔ (Contains xs l ⊎ (l ≡ x))

-- ys increases, and has the members of xs but x
pub record IsWithout (xs : List ℕ) (x : ℕ) (ys : List ℕ) : Type 0 where
  pub increasing : IsStrictlyIncreasing ys
  pub lines : (l : ℕ) → Contains ys l ↔ (Contains xs l × (l ≢ x))

pub without_is : (x : ℕ) (xs : List ℕ) → IsStrictlyIncreasing xs → IsWithout xs x (filter (λ y. not (eqb y x)) xs)
without_is x xs h = record { increasing = IsStrictlyIncreasing-filter (λ y. not (eqb y x)) xs h; lines = contains-without x xs }

-- x was found in zs, which is xs
pub with_found : (xs zs : List ℕ) (x i : ℕ) → IsStrictlyIncreasing xs → zs ≡ xs → IsBinarySearchResult (λ y. nat_cmp y x) zs (Ok i) → IsWith xs x zs
with_found xs zs x i h e s = subst (λ t. IsWith xs x t) (sym e) (let found = searched xs x (Ok i) (subst (λ t. IsBinarySearchResult (λ y. nat_cmp y x) t (Ok i)) e s) (rises xs h) in record {
  increasing = h;
  lines = λ l. (λ c. inl c, λ t. elim t [ inl c ↦ c | inr q ↦ (i, found.0, get_or_default_zero xs i l found.0 ∙ found.1 ∙ sym q) ]);
})

-- its place was found
pub with_missed : (xs zs : List ℕ) (x i : ℕ) → IsStrictlyIncreasing xs → zs ≡ xs → IsBinarySearchResult (λ y. nat_cmp y x) zs (Err i) → IsWith xs x (insert zs i x)
with_missed xs zs x i h e s = subst (λ t. IsWith xs x (insert t i x)) (sym e) (let missed = searched xs x (Err i) (subst (λ t. IsBinarySearchResult (λ y. nat_cmp y x) t (Err i)) e s) (rises xs h) in record {
  increasing = increasing-insert xs i x h missed.0 missed.1 missed.2;
  lines = contains-insert xs i x;
})

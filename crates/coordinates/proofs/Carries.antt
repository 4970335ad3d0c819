-- A vector of a list that is carried to another place, and the coordinates over the list with it: by swaps of neighbours.
use Rattle.std.proofs.Common.{◌≡◌, ◌≢◌, ℕ, zero, suc, ◌+◌, ◌-◌, ◌<◌, ◌≤◌, inl, inr, List, [], length, get_or, set, refl, sym, ap, ◌∙◌, subst, arith}
use Rattle.std.specs.List.{swap}
use Rattle.std.proofs.lemmas.Bool.{cases_lt, cases_eq}
use Rattle.std.proofs.lemmas.List.{ext_get_or, length-set, get_or-set_same, get_or-set_other}
use Rattle.std.proofs.lemmas.List.Edits.{length-swap, swap_is}
use Rattle.linear_algebra.specs.Scalars.{Scalars, IsField}
use Rattle.linear_algebra.specs.Spans.{Combines}
use Rattle.packed_rows.specs.Carried.{carried}
use Rattle.packed_rows.proofs.Carries.{length-carried, carried_at, carried_below, carried_down, carried_up, carried_above}
use Rattle.coordinates.specs.Bases.{IsBasis}
use Rattle.coordinates.proofs.Swaps.{swap_basis, swap_combines}

-- ---- what stands where after a swap

module _ {X : Type 0} (xs : List X) (d : X) (i j : ℕ) (h : i < length xs) (k : j < length xs) where
  swap-first : i ≢ j → get_or (swap xs i j) i d ≡ get_or xs j d
  swap-first n =
      ap (λ l. get_or l i d) (sym (swap_is xs i j d h k)) ∙ get_or-set_other (set xs i (get_or xs j d)) j i (get_or xs i d) d n
      ∙ get_or-set_same xs i (get_or xs j d) d h

  swap-second : get_or (swap xs i j) j d ≡ get_or xs i d
  swap-second =
      ap (λ l. get_or l j d) (sym (swap_is xs i j d h k))
      ∙ get_or-set_same (set xs i (get_or xs j d)) j (get_or xs i d) d (omega (arith, length-set xs i (get_or xs j d)))

  swap-other : (m : ℕ) → m ≢ i → m ≢ j → get_or (swap xs i j) m d ≡ get_or xs m d
  swap-other m n o =
      ap (λ l. get_or l m d) (sym (swap_is xs i j d h k)) ∙ get_or-set_other (set xs i (get_or xs j d)) j m (get_or xs i d) d o
      ∙ get_or-set_other xs i m (get_or xs j d) d n

-- ---- one place further is one swap more

module _ {X : Type 0} (xs : List X) (d : X) (i : ℕ) (source : i < length xs) where
  pub carried_here : carried xs i i ≡ xs
  carried_here = ext_get_or d (carried xs i i) xs (length-carried xs i i d source source) (λ k l. elim (cases_eq k i) [
    | inl e ↦ ap (λ n. get_or (carried xs i i) n d) e ∙ carried_at xs i i d source source ∙ ap (λ n. get_or xs n d) (sym e)
    | inr apart ↦ elim (cases_lt k i) [
      | inl m ↦ carried_below xs i i d source source k m m
      | inr m ↦ carried_above xs i i d source source k (omega (arith, apart)) (omega (arith, apart))
    ]
  ])

  module _ (j : ℕ) (on : i ≤ j) (next : j + 1 < length xs) where
    near : j < length xs
    near = omega arith

    -- the list one place before
    abbrev before : List X
    before = carried xs i j

    long : length before ≡ length xs
    long = length-carried xs i j d source near

    j_in : j < length before
    j_in = omega (arith, long)

    next_in : j + 1 < length before
    next_in = omega (arith, long)

    away : (k : ℕ) → k ≢ j → k ≢ j + 1 → get_or (carried xs i (j + 1)) k d ≡ get_or before k d
    away k apart off = elim (cases_lt k j) [
      | inl m ↦ elim (cases_lt k i) [
        | inl l ↦ carried_below xs i (j + 1) d source next k l (omega arith) ∙ sym (carried_below xs i j d source near k l m)
        | inr l ↦ carried_down xs i (j + 1) d source next k l (omega arith) ∙ sym (carried_down xs i j d source near k l m)
      ]
      | inr m ↦
          carried_above xs i (j + 1) d source next k (omega (arith, apart, off)) (omega (arith, apart, off))
          ∙ sym (carried_above xs i j d source near k (omega (arith, apart)) (omega (arith, apart)))
    ]

    pub carried_on : carried xs i (j + 1) ≡ swap (carried xs i j) j (j + 1)
    carried_on = ext_get_or d (carried xs i (j + 1)) (swap before j (j + 1)) (length-carried xs i (j + 1) d source next ∙ sym (length-swap before j (j + 1) ∙ long))
        (λ k l. elim (cases_eq k j) [
          | inl e ↦ subst (λ n. get_or (carried xs i (j + 1)) n d ≡ get_or (swap before j (j + 1)) n d) (sym e)
              (carried_down xs i (j + 1) d source next j on (omega arith)
              ∙ sym (swap-first before d j (j + 1) j_in next_in (λ q. absurd (omega arith)) ∙ carried_above xs i j d source near (j + 1) (omega arith) (omega arith)))
          | inr apart ↦ elim (cases_eq k (j + 1)) [
            | inl e ↦ subst (λ n. get_or (carried xs i (j + 1)) n d ≡ get_or (swap before j (j + 1)) n d) (sym e)
                (carried_at xs i (j + 1) d source next ∙ sym (swap-second before d j (j + 1) j_in next_in ∙ carried_at xs i j d source near))
            | inr off ↦ away k apart off ∙ sym (swap-other before d j (j + 1) j_in next_in k apart off)
          ]
        ])

  module _ (j : ℕ) (back : j < i) where
    there : j < length xs
    there = omega arith

    behind : j + 1 < length xs
    behind = omega arith

    -- the list one place before
    abbrev later : List X
    later = carried xs i (j + 1)

    later_long : length later ≡ length xs
    later_long = length-carried xs i (j + 1) d source behind

    later_j : j < length later
    later_j = omega (arith, later_long)

    later_next : j + 1 < length later
    later_next = omega (arith, later_long)

    away_back : (k : ℕ) → k ≢ j → k ≢ j + 1 → get_or (carried xs i j) k d ≡ get_or later k d
    away_back k apart off = elim (cases_lt k j) [
      | inl m ↦ carried_below xs i j d source there k (omega arith) m ∙ sym (carried_below xs i (j + 1) d source behind k (omega arith) (omega arith))
      | inr m ↦ elim (cases_lt i k) [
        | inl l ↦
            carried_above xs i j d source there k l (omega (arith, apart, off))
            ∙ sym (carried_above xs i (j + 1) d source behind k l (omega (arith, apart, off)))
        | inr l ↦
            let e : k - 1 + 1 ≡ k = omega (arith, apart) in
            subst (λ n. get_or (carried xs i j) n d ≡ get_or later n d) e
            (carried_up xs i j d source there (k - 1) (omega (arith, apart)) (omega (arith, apart))
            ∙ sym (carried_up xs i (j + 1) d source behind (k - 1) (omega (arith, apart, off)) (omega (arith, apart))))
      ]
    ]

    pub carried_back : carried xs i j ≡ swap (carried xs i (j + 1)) j (j + 1)
    carried_back = ext_get_or d (carried xs i j) (swap later j (j + 1)) (length-carried xs i j d source there ∙ sym (length-swap later j (j + 1) ∙ later_long))
        (λ k l. elim (cases_eq k j) [
          | inl e ↦ subst (λ n. get_or (carried xs i j) n d ≡ get_or (swap later j (j + 1)) n d) (sym e)
              (carried_at xs i j d source there ∙ sym (swap-first later d j (j + 1) later_j later_next (λ q. absurd (omega arith)) ∙ carried_at xs i (j + 1) d source behind))
          | inr apart ↦ elim (cases_eq k (j + 1)) [
            | inl e ↦ subst (λ n. get_or (carried xs i j) n d ≡ get_or (swap later j (j + 1)) n d) (sym e)
                (carried_up xs i j d source there j (omega arith) back
                ∙ sym (swap-second later d j (j + 1) later_j later_next ∙ carried_below xs i (j + 1) d source behind j back (omega arith)))
            | inr off ↦ away_back k apart off ∙ sym (swap-other later d j (j + 1) later_j later_next k apart off)
          ]
        ])

-- ---- what each swap of neighbours keeps

module _ {X Y : Type 0} (a : X) (b : Y) (R : List X → List Y → Type 0)
    (keeps : (vs : List X) (cs : List Y) (j : ℕ) → length cs ≡ length vs → j + 1 < length vs → R vs cs → R (swap vs j (j + 1)) (swap cs j (j + 1)))
    (vs : List X) (cs : List Y) (same : length cs ≡ length vs) (h : R vs cs) (i : ℕ) (source : i < length vs) where
  also : i < length cs
  also = omega (arith, same)

  lengths : (j : ℕ) → j < length vs → length (carried cs i j) ≡ length (carried vs i j)
  lengths j l = length-carried cs i j b also (omega (arith, same)) ∙ same ∙ sym (length-carried vs i j a source l)

  onward : (n : ℕ) → i + n < length vs → R (carried vs i (i + n)) (carried cs i (i + n))
  onward zero l =
      let e : i ≡ i + zero = omega arith in
      subst (λ t. R (carried vs i t) (carried cs i t)) e
      (subst (λ u. R u (carried cs i i)) (sym (carried_here vs a i source)) (subst (λ u. R vs u) (sym (carried_here cs b i also)) h))
  onward (suc n) l =
      let e : i + n + 1 ≡ i + suc n = omega arith in
      let j = i + n in
      let near : j < length vs = omega arith in
      let next : j + 1 < length vs = omega arith in
      subst (λ t. R (carried vs i t) (carried cs i t)) e
      (subst (λ u. R u (carried cs i (j + 1))) (sym (carried_on vs a i source j (omega arith) next))
      (subst (λ u. R (swap (carried vs i j) j (j + 1)) u) (sym (carried_on cs b i also j (omega arith) (omega (arith, same))))
      (keeps (carried vs i j) (carried cs i j) j (lengths j near) (omega (arith, length-carried vs i j a source near)) (onward n near))))

  backward : (n : ℕ) → n ≤ i → R (carried vs i (i - n)) (carried cs i (i - n))
  backward zero l =
      let e : i ≡ i - zero = omega arith in
      subst (λ t. R (carried vs i t) (carried cs i t)) e
      (subst (λ u. R u (carried cs i i)) (sym (carried_here vs a i source)) (subst (λ u. R vs u) (sym (carried_here cs b i also)) h))
  backward (suc n) l =
      let j = i - suc n in
      let e : i - n ≡ j + 1 = omega arith in
      let back : j < i = omega arith in
      let next : j + 1 < length vs = omega arith in
      let so_far : R (carried vs i (j + 1)) (carried cs i (j + 1)) = subst (λ t. R (carried vs i t) (carried cs i t)) e (backward n (omega arith)) in
      subst (λ u. R u (carried cs i j)) (sym (carried_back vs a i source j back))
      (subst (λ u. R (swap (carried vs i (j + 1)) j (j + 1)) u) (sym (carried_back cs b i also j back))
      (keeps (carried vs i (j + 1)) (carried cs i (j + 1)) j (lengths (j + 1) next) (omega (arith, length-carried vs i (j + 1) a source next)) so_far))

  carried_keeps : (to : ℕ) → to < length vs → R (carried vs i to) (carried cs i to)
  carried_keeps to l = elim (cases_lt to i) [
    | inl m ↦ let e : i - (i - to) ≡ to = omega arith in subst (λ t. R (carried vs i t) (carried cs i t)) e (backward (i - to) (omega arith))
    | inr m ↦ let e : i + (to - i) ≡ to = omega arith in subst (λ t. R (carried vs i t) (carried cs i t)) e (onward (to - i) (omega arith))
  ]

-- ---- bases and coordinates

module _ (S : Scalars) (F : IsField S) (d : ℕ) (vs : List (List ℕ)) (from to : ℕ) (basis : IsBasis S d vs)
    (source : from < length vs) (target : to < length vs) where
  pub basis-carried : IsBasis S d (carried vs from to)
  basis-carried =
      carried_keeps {X = List ℕ} {Y = List ℕ} [] [] (λ ws us. IsBasis S d ws) (λ ws us j same l is. swap_basis S F d ws j (j + 1) is (omega arith) l) vs vs refl basis from source to target

  pub combines-carried : (cs x : List ℕ) → Combines S d vs cs x → Combines S d (carried vs from to) (carried cs from to) x
  combines-carried cs x h =
      (carried_keeps {X = List ℕ} {Y = ℕ} [] 0 (λ ws ds. IsBasis S d ws × Combines S d ws ds x)
      (λ ws ds j same l both. (swap_basis S F d ws j (j + 1) both.0 (omega arith) l, swap_combines S F d ws j (j + 1) ds x both.0.vectors (omega arith) l both.1))
      vs cs h.one_each.length_is (basis, h) from source to target).1

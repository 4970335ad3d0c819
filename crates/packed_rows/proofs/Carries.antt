-- What stands where in a list in which an element is carried to another place.
use Rattle.std.proofs.Common.{◌≡◌, ◌≢◌, ℕ, suc, ◌+◌, ◌-◌, ◌<◌, ◌≤◌, inl, inr, List, ◌++◌, All, length, map, get_or, take, drop}
use Rattle.std.proofs.Common.{sym, ap, ap₂, subst, ◌∙◌, arith, append_assoc, drop-cons}
use Rattle.std.specs.List.{insert, remove}
use Rattle.std.proofs.Math.ListN.{set}
use Rattle.std.proofs.lemmas.Bool.{cases_lt, cases_eq}
use Rattle.std.proofs.lemmas.List.{ext_get_or, take-map, drop-map, map-append, length-set, get_or-set_same, get_or-set_other}
use Rattle.std.proofs.lemmas.List.Edits.{length-insert, length-remove, get_or-insert_below, get_or-insert_at, get_or-insert_above}
use Rattle.std.proofs.lemmas.List.Edits.{get_or-remove_below, get_or-remove_above}
use Rattle.std.proofs.lemmas.List.Elements.{All-append, All-take, All-drop}
use Rattle.packed_rows.specs.Carried.{carried}
use Rattle.packed_rows.specs.Shifts.{AreShifted}

pub map-carried : {X Y : Type 0} (f : X → Y) (xs : List X) (from to : ℕ) → map f (carried xs from to) ≡ carried (map f xs) from to
map-carried f xs from to =
    let rest : map f (remove xs from) ≡ remove (map f xs) from =
    map-append f (take from xs) (drop (suc from) xs) ∙ sym (ap₂ (λ u v. u ++ v) (take-map f from xs) (drop-map f (suc from) xs)) in
    let front : map f (take to (remove xs from)) ≡ take to (remove (map f xs) from) = sym (take-map f to (remove xs from)) ∙ ap (take to) rest in
    let back : map f (drop to (remove xs from)) ≡ drop to (remove (map f xs) from) = sym (drop-map f to (remove xs from)) ∙ ap (drop to) rest in
    let one : map f (take 1 (drop from xs)) ≡ take 1 (drop from (map f xs)) = sym (take-map f 1 (drop from xs)) ∙ ap (take 1) (sym (drop-map f from xs)) in
    map-append f (take to (remove xs from) ++ take 1 (drop from xs)) (drop to (remove xs from))
    ∙ ap₂ (λ u v. u ++ v) (map-append f (take to (remove xs from)) (take 1 (drop from xs)) ∙ ap₂ (λ u v. u ++ v) front one) back

pub All-carried : {X : Type 0} (P : X → Type 0) (xs : List X) (from to : ℕ) → All P xs → All P (carried xs from to)
All-carried P xs from to h =
    let rest : All P (remove xs from) = All-append P (take from xs) (drop (suc from) xs) (All-take P from xs h) (All-drop P (suc from) xs h) in
    All-append P (take to (remove xs from) ++ take 1 (drop from xs)) (drop to (remove xs from))
    (All-append P (take to (remove xs from)) (take 1 (drop from xs)) (All-take P to (remove xs from) rest) (All-take P 1 (drop from xs) (All-drop P from xs h)))
    (All-drop P to (remove xs from) rest)

module _ {X : Type 0} (xs : List X) (from to : ℕ) (d : X) (source : from < length xs) (target : to < length xs) where
  carried_is : carried xs from to ≡ insert (remove xs from) to (get_or xs from d)
  carried_is =
      append_assoc (take to (remove xs from)) (take 1 (drop from xs)) (drop to (remove xs from))
      ∙ ap (λ l. take to (remove xs from) ++ (take 1 l ++ drop to (remove xs from))) (drop-cons xs from d source)

  room : to ≤ length (remove xs from)
  room = omega (arith, length-remove xs from source)

  pub length-carried : length (carried xs from to) ≡ length xs
  length-carried = ap length carried_is ∙ length-insert (remove xs from) to (get_or xs from d) room ∙ length-remove xs from source

  pub carried_at : get_or (carried xs from to) to d ≡ get_or xs from d
  carried_at = ap (λ l. get_or l to d) carried_is ∙ get_or-insert_at (remove xs from) to (get_or xs from d) d room

  pub carried_below : (k : ℕ) → k < from → k < to → get_or (carried xs from to) k d ≡ get_or xs k d
  carried_below k l m =
      ap (λ l. get_or l k d) carried_is ∙ get_or-insert_below (remove xs from) to (get_or xs from d) d k m room ∙ get_or-remove_below xs from d k l source

  pub carried_down : (k : ℕ) → from ≤ k → k < to → get_or (carried xs from to) k d ≡ get_or xs (k + 1) d
  carried_down k l m =
      ap (λ l. get_or l k d) carried_is ∙ get_or-insert_below (remove xs from) to (get_or xs from d) d k m room ∙ get_or-remove_above xs from d k l source

  pub carried_up : (k : ℕ) → to ≤ k → k < from → get_or (carried xs from to) (k + 1) d ≡ get_or xs k d
  carried_up k l m =
      ap (λ l. get_or l (k + 1) d) carried_is ∙ get_or-insert_above (remove xs from) to (get_or xs from d) d k l room ∙ get_or-remove_below xs from d k m source

  pub carried_above : (k : ℕ) → from < k → to < k → get_or (carried xs from to) k d ≡ get_or xs k d
  carried_above k l m =
      let e : k - 1 + 1 ≡ k = omega arith in
      subst (λ n. get_or (carried xs from to) n d ≡ get_or xs n d) e
      (ap (λ l. get_or l (k - 1 + 1) d) carried_is ∙ get_or-insert_above (remove xs from) to (get_or xs from d) d (k - 1) (omega arith) room
      ∙ get_or-remove_above xs from d (k - 1) (omega arith) source)

  -- a list where the others are shifted, and the element is put to its place
  module _ (shifted : List X) (long : length shifted ≡ length xs) (h : (k : ℕ) → k ≢ to → get_or shifted k d ≡ get_or (carried xs from to) k d) where
    pub put_carried : (x : X) → x ≡ get_or xs from d → set shifted to x ≡ carried xs from to
    put_carried x is = ext_get_or d (set shifted to x) (carried xs from to) (length-set shifted to x ∙ long ∙ sym length-carried)
        (λ k l. elim (cases_eq k to) [
          | inl e ↦ ap (λ n. get_or (set shifted to x) n d) e ∙ get_or-set_same shifted to x d (omega (arith, long)) ∙ is ∙ sym carried_at
              ∙ ap (λ n. get_or (carried xs from to) n d) (sym e)
          | inr apart ↦ get_or-set_other shifted to k x d apart ∙ h k apart
        ])

-- the same of numbers
module _ (xs shifted : List ℕ) (from to : ℕ) (source : from < length xs) (target : to < length xs)
    (h : AreShifted from to (λ i. get_or xs i 0) (λ i. get_or shifted i 0)) where
  others : (k : ℕ) → k ≢ to → get_or shifted k 0 ≡ get_or (carried xs from to) k 0
  others k apart = elim (cases_lt k to) [
    | inl less ↦ elim (cases_lt k from) [
      | inl l ↦ h.below k l less ∙ sym (carried_below xs from to 0 source target k l less)
      | inr l ↦ h.down k l less ∙ sym (carried_down xs from to 0 source target k l less)
    ]
    | inr more ↦ elim (cases_lt from k) [
      | inl l ↦ h.above k l (omega (arith, apart)) ∙ sym (carried_above xs from to 0 source target k l (omega (arith, apart)))
      | inr l ↦
          let e : k - 1 + 1 ≡ k = omega (arith, apart) in
          subst (λ n. get_or shifted n 0 ≡ get_or (carried xs from to) n 0) e
          (h.up (k - 1) (omega (arith, apart)) (omega (arith, apart)) ∙ sym (carried_up xs from to 0 source target (k - 1) (omega (arith, apart)) (omega (arith, apart))))
    ]
  ]

  pub carried_from_shift : (x : ℕ) → length shifted ≡ length xs → x ≡ get_or xs from 0 → set shifted to x ≡ carried xs from to
  carried_from_shift x long is = put_carried xs from to 0 source target shifted long others x is

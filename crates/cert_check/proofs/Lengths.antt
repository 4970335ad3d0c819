-- Parts that share no position have no more positions than there are.
use Rattle.std.proofs.Common.{◌≡◌, ℕ, zero, suc, ◌+◌, ◌<◌, ◌≤◌, ◌⊎◌, inl, inr, List, [], ◌∷◌, length, get_or, true, false, cond, eqb}
use Rattle.std.proofs.Common.{refl, sym, ap, ◌∙◌, subst, arith, add-one, zero-add, All}
use Rattle.std.specs.Prelude.{sum_by}
use Rattle.std.specs.List.{list_any}
use Rattle.std.specs.List.Sorted.{IsStrictlyIncreasing}
use Rattle.std.proofs.lemmas.Bool.{eq-eqb, ne_eqb}
use Rattle.std.proofs.lemmas.Bool.Decides.{eqb_tells}
use Rattle.std.proofs.lemmas.List.Elements.{All-head, All-tail}
use Rattle.std.proofs.lemmas.List.Folds.{list_any_none}
use Rattle.std.proofs.lemmas.List.Kept.{AllPairs-from_increasing}
use Rattle.std.proofs.lemmas.List.Sums.{sum_by-cons}
use Rattle.parity_lines.specs.Certificates.{parts_with}
use Rattle.cert_check.specs.Counts.{once_in}

-- the sum of f at the numbers below n
abbrev total : (ℕ → ℕ) → ℕ → ℕ
total f zero = 0
total f (suc n) = total f n + f n

total_add : (f g h : ℕ → ℕ) (n : ℕ) → ((m : ℕ) → h m ≡ f m + g m) → total h n ≡ total f n + total g n
total_add f g h zero e = refl
total_add f g h (suc n) e = let ih = total_add f g h n e in let l = e n in omega arith

total_le : (f : ℕ → ℕ) (n : ℕ) → ((m : ℕ) → m < n → f m ≤ 1) → total f n ≤ n
total_le f zero h = omega arith
total_le f (suc n) h = let ih = total_le f n (λ m l. h m (omega arith)) in let l = h n (omega arith) in omega arith

total_at : (f : ℕ → ℕ) (a n : ℕ) → a < n → f a ≡ 1 → 1 ≤ total f n
total_at f a zero h e = absurd (omega arith)
total_at f a (suc n) h e = go (eqb_tells a n) (total_at f a n)
  where
    go : ((eqb a n ≡ true) × (a ≡ n)) ⊎ ((eqb a n ≡ false) × (a ≡ n → ⊥)) → (a < n → f a ≡ 1 → 1 ≤ total f n) → 1 ≤ total f n + f n
    go (inl s) ih = let k = ap f (sym s.1) ∙ e in omega arith
    go (inr s) ih = let apart = s.1 in let one = ih (omega arith) e in omega arith

module _ (a : ℕ) (part : List ℕ) (s : IsStrictlyIncreasing (a ∷ part)) where
  behind_head : (k d : ℕ) → get_or (a ∷ part) (k + 1) d ≡ get_or part k d
  behind_head k d = ap (λ n. get_or (a ∷ part) n d) (add-one k)

  increasing_tail : IsStrictlyIncreasing part
  increasing_tail k l = subst (λ x. x < get_or part (k + 1) 0) (behind_head k 0)
      (subst (λ y. get_or (a ∷ part) (k + 1) 0 < y) (behind_head (k + 1) 0) (s (k + 1) (omega arith)))

  -- the first stands there once
  once_head : (m : ℕ) → once_in (a ∷ part) m ≡ cond (eqb a m) 1 0 + once_in part m
  once_head m = go (eqb_tells a m)
    where
      go : ((eqb a m ≡ true) × (a ≡ m)) ⊎ ((eqb a m ≡ false) × (a ≡ m → ⊥)) → once_in (a ∷ part) m ≡ cond (eqb a m) 1 0 + once_in part m
      go (inl e) =
          let never : list_any (λ l. eqb l m) part
          ≡ false = list_any_none (λ l. eqb l m) part (λ k d l. ne_eqb (get_or part k d) m (λ same.
          let above = AllPairs-from_increasing (a ∷ part) s 0 (k + 1) d (omega arith) (omega arith) in
          let read = behind_head k d in
          let is = e.1 in
          absurd (omega arith))) in
          rw (e.0, never) refl
      go (inr n) = rw n.0 (sym (zero-add (once_in part m)))

pub length_le_total : (part : List ℕ) (n : ℕ) → IsStrictlyIncreasing part → All (λ m. m < n) part → length part ≤ total (once_in part) n
length_le_total [] n s h = omega arith
length_le_total (a ∷ part) n s h =
    let ih = length_le_total part n (increasing_tail a part s) (All-tail (λ m. m < n) a part h) in
    let e = total_add (λ m. cond (eqb a m) 1 0) (once_in part) (once_in (a ∷ part)) n (once_head a part s) in
    let one = total_at (λ m. cond (eqb a m) 1 0) a n (All-head (λ m. m < n) a part h) (ap (λ b. cond {A = ℕ} b 1 0) (eq-eqb a a refl)) in
    omega arith

pub lengths_le_total : (parts : List (List ℕ)) (n : ℕ) → All IsStrictlyIncreasing parts → All (λ part. All (λ m. m < n) part) parts
    → sum_by length parts ≤ total (parts_with parts) n
lengths_le_total [] n s h = omega arith
lengths_le_total (part ∷ parts) n s h =
    let ih = lengths_le_total parts n (All-tail IsStrictlyIncreasing part parts s) (All-tail (λ q. All (λ m. m < n) q) part parts h) in
    let e = total_add (once_in part) (parts_with parts) (parts_with (part ∷ parts)) n (λ m. sum_by-cons (λ q. once_in q m) part parts) in
    let one = length_le_total part n (All-head IsStrictlyIncreasing part parts s) (All-head (λ q. All (λ m. m < n) q) part parts h) in
    let l = sum_by-cons length part parts in
    omega arith

-- so parts with no position in two of them
pub lengths_le : (parts : List (List ℕ)) (n : ℕ) → All IsStrictlyIncreasing parts → All (λ part. All (λ m. m < n) part) parts
    → ((m : ℕ) → m < n → parts_with parts m ≤ 1) → sum_by length parts ≤ n
lengths_le parts n s h d = let a = lengths_le_total parts n s h in let b = total_le (parts_with parts) n d in omega arith

-- The first of the numbers below n that passes a test, if there is one.
use Rattle.std.proofs.Common.{◌≡◌, ℕ, zero, suc, ◌+◌, ◌<◌, List, [], ◌∷◌, length, get_or, Bool, true, false, not, cond}
use Rattle.std.proofs.Common.{None, Some, inl, inr, refl, sym, ◌∙◌, subst, arith}
use Rattle.std.specs.Prelude.{nat_lt}
use Rattle.std.specs.List.{position, position_or_len}
use Rattle.std.proofs.lemmas.Bool.{cases_Bool, lt-ltb, le-ltb, true≢false}
use Rattle.std.proofs.lemmas.List.Sums.{position_or_len_is}
use Rattle.graph_theory.proofs.Numbers.{numbers_at, numbers_length}
use Rattle.graph_theory.specs.Numbers.{numbers_from}

-- a member that passes has a first one before it, or is it
some_passes : {X : Type 0} (p : X → Bool) (xs : List X) (i : ℕ) (d : X) → i < length xs → p (get_or xs i d) ≡ true
    → position_or_len p xs < length xs
some_passes p [] i d l h = absurd (omega (arith, l))
some_passes {X = X} p (x ∷ xs) i d l h = go (p x) refl (λ i. some_passes p xs i d) i l h
  where
    go : (b : Bool) → p x ≡ b → ((i : ℕ) → i < length xs → p (get_or xs i d) ≡ true → position_or_len p xs < length xs)
        → (i : ℕ) → i < length (x ∷ xs) → p (get_or (x ∷ xs) i d) ≡ true
        → cond (not b) (1 + position_or_len p xs) 0 < length (x ∷ xs)
    go true e later i l h = omega arith
    go false e later zero l h = absurd (true≢false (sym h ∙ e))
    go false e later (suc i) l h = let more = later i (omega (arith, l)) h in omega (arith, more)

-- where there is no first, none passes
none_passes : {X : Type 0} (p : X → Bool) (xs : List X) → position p xs ≡ None → (i : ℕ) (d : X) → i < length xs
    → p (get_or xs i d) ≡ false
none_passes p xs none i d l =
    elim (cases_Bool (p (get_or xs i d))) [
      | inl holds ↦
          let first : nat_lt (position_or_len p xs) (length xs) ≡ true = lt-ltb _ _ (some_passes p xs i d l holds) in
          let some : Some (position_or_len p xs) ≡ None = rw first at none in
          absurd (cc (some))
      | inr fails ↦ fails
    ]

module _ (n : ℕ) (p : ℕ → Bool) where
  abbrev numbers : List ℕ
  numbers = numbers_from 0 n

  at_number : (v : ℕ) → v < n → get_or numbers v 0 ≡ v
  at_number v l = omega (arith, numbers_at 0 n v 0 l)

  passes_at : (v : ℕ) → v < n → p v ≡ true → p (get_or numbers v 0) ≡ true
  passes_at v l h = subst (λ w. p w ≡ true) (sym (at_number v l)) h

  pub first_is : (v : ℕ) → v < n → ((u : ℕ) → u < v → p u ≡ false) → p v ≡ true → position p numbers ≡ Some v
  first_is v l before here =
      let long = numbers_length 0 n in
      let place : position_or_len p numbers ≡ v =
      position_or_len_is p numbers v 0 (omega (arith, l, long))
      (λ k m. subst (λ w. p w ≡ false) (sym (at_number k (omega (arith, l, m)))) (before k m)) (λ m. passes_at v l here) in
      let within : nat_lt v (length numbers) ≡ true = lt-ltb v (length numbers) (omega (arith, l, long)) in
      rw (place, within) refl

  pub first_none : ((u : ℕ) → u < n → p u ≡ false) → position p numbers ≡ None
  first_none all =
      let long = numbers_length 0 n in
      let place : position_or_len p numbers ≡ length numbers =
      position_or_len_is p numbers (length numbers) 0 (omega arith)
      (λ k m. subst (λ w. p w ≡ false) (sym (at_number k (omega (arith, m, long)))) (all k (omega (arith, m, long))))
      (λ m. absurd (omega (arith, m))) in
      let beyond : nat_lt (length numbers) (length numbers) ≡ false = le-ltb (length numbers) (length numbers) (omega arith) in
      rw (place, beyond) refl

  pub fails_below : position p numbers ≡ None → (v : ℕ) → v < n → p v ≡ false
  fails_below none v l =
      subst (λ w. p w ≡ false) (at_number v l) (none_passes p numbers none v 0 (omega (arith, l, numbers_length 0 n)))

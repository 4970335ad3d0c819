-- The numbers of the edges of a list, each once.
use Rattle.std.proofs.Common.{◌≡◌, ℕ, zero, suc, ◌+◌, ◌<◌, ◌≤◌, List, [], ◌∷◌, ◌++◌, length, refl, sym, ap, subst, ◌∙◌, arith, add-one}
use Rattle.std.proofs.Math.Decide.{ℕ_discrete}
use Rattle.std.proofs.lemmas.List.{map-id}
use Rattle.std.proofs.lemmas.List.FromFn.{map-range_with_len_more}
use Rattle.std.specs.List.{range_with_len}
use Rattle.edge_lists.specs.EdgeNumbers.{edge_numbers}
use Rattle.edge_lists.specs.Occurrences.{count}
use Rattle.edge_lists.proofs.Occurrences.{count-append, count-nil, count-one, count-other}

pub range-more : (n : ℕ) → range_with_len 0 (n + 1) ≡ range_with_len 0 n ++ n ∷ []
range-more n = sym (map-id (range_with_len 0 (n + 1))) ∙ map-range_with_len_more (λ x. x) 0 n n (omega arith)
    ∙ ap (λ t. t ++ n ∷ []) (map-id (range_with_len 0 n))

count-more : (e n : ℕ) → count e (range_with_len 0 (suc n)) ≡ count e (range_with_len 0 n) + count e (n ∷ [])
count-more e n = ap (λ m. count e (range_with_len 0 m)) (sym (add-one n)) ∙ ap (count e) (range-more n)
    ∙ count-append e (range_with_len 0 n) (n ∷ [])

count-above : (e n : ℕ) → n ≤ e → count e (range_with_len 0 n) ≡ 0
count-above e zero l = count-nil e
count-above e (suc n) l = omega (
  arith,
  count-more e n,
  count-above e n (omega arith),
  count-other e n [] (λ q. omega (arith, q)),
  count-nil e,
)

count-below : (e n : ℕ) → e < n → count e (range_with_len 0 n) ≡ 1
count-below e zero l = absurd (omega arith)
count-below e (suc n) l = go (ℕ_discrete n e) (count-below e n)
  where
    go : Dec (n ≡ e) → (e < n → count e (range_with_len 0 n) ≡ 1) → count e (range_with_len 0 (suc n)) ≡ 1
    go (yes q) ih = omega (arith, count-more e n, count-above e n (omega arith), ap (λ t. count e (t ∷ [])) q, count-one e)
    go (no k) ih = omega (arith, count-more e n, ih (omega arith), count-other e n [] k, count-nil e)

module _ (E : List (ℕ × ℕ)) where
  pub numbers_single : (e : ℕ) → count e (edge_numbers E) ≤ 1
  numbers_single e = go (ℕ_discrete (count e (edge_numbers E)) 1)
    where
      go : Dec (count e (edge_numbers E) ≡ 1) → count e (edge_numbers E) ≤ 1
      go (yes q) = omega arith
      go (no n) = omega (arith, count-above e (length E) (let k : ¬ (e < length E) = λ l. n (count-below e (length E) l) in omega arith))

  pub numbers_all : (e : ℕ) → e < length E → 1 ≤ count e (edge_numbers E)
  numbers_all e l = omega (arith, count-below e (length E) l)

  pub numbers_below : (e : ℕ) → 1 ≤ count e (edge_numbers E) → e < length E
  numbers_below e i = let k : ¬ (length E ≤ e) = λ l. omega (arith, i, count-above e (length E) l) in omega arith

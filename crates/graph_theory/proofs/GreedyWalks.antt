-- The greedy forest, as it is found edge by edge, is that of the definition by walks.
use Rattle.std.proofs.Math.Decide.{dec_lt}
use Rattle.std.proofs.Common.{◌≡◌, ℕ, zero, suc, ◌+◌, ◌-◌, ◌≤◌, ◌<◌, ◌⊎◌, inl, inr, List, [], ◌∷◌, ◌++◌, length, get_or, map, refl, sym, ap, ◌∙◌, subst, arith, false, cond}
use Rattle.std.specs.Prelude.{nat_lt}
use Rattle.std.specs.List.Sorted.{IsStrictlyIncreasing}
use Rattle.std.proofs.lemmas.List.{append-nil, get_or_append_left, get_or-append-add, length_push}
use Rattle.std.proofs.lemmas.Bool.{ltb-true, lt-ltb, false_from_ne_true}
use Rattle.std.proofs.lemmas.List.Elements.{filter-append}
use Rattle.vector_spaces.proofs.Members.{In, In-get_or, In-append, In-append_right}
use Rattle.graph_theory.specs.Labels.{Connected}
use Rattle.graph_theory.specs.Walks.{edge_at, Walk}
use Rattle.graph_theory.specs.Greedy.{greedy_edges, below, IsGreedyForest}
use Rattle.graph_theory.proofs.Greedy.{kept, greedy-step}
use Rattle.graph_theory.proofs.Numbers.{filter_in, in_filter}
use Rattle.graph_theory.proofs.Walks.{connected_of_walk, walk_of_connected}

not_below : (k i : ℕ) → i ≤ k → nat_lt k i ≡ false
not_below k i l = false_from_ne_true (nat_lt k i) (λ e. let m = ltb-true k i e in omega arith)

all_below : (i : ℕ) (xs : List ℕ) → ((k : ℕ) → In k xs → k < i) → below i xs ≡ xs
all_below i [] h = refl
all_below i (x ∷ xs) h = ap (λ b. cond b (x ∷ below i xs) (below i xs)) (lt-ltb x i (h x (inl refl)))
    ∙ ap (λ z. x ∷ z) (all_below i xs (λ k j. h k (inr j)))

pub increasing_push : (xs : List ℕ) (m : ℕ) → IsStrictlyIncreasing xs → ((k : ℕ) → In k xs → k < m) → IsStrictlyIncreasing (xs ++ m ∷ [])
increasing_push xs m r h k l = go (dec_lt (k + 1) (length xs))
  where
    left : (i : ℕ) → i < length xs → get_or (xs ++ m ∷ []) i 0 ≡ get_or xs i 0
    left i b = get_or_append_left xs (m ∷ []) 0 i b

    size : length (xs ++ m ∷ []) ≡ length xs + 1
    size = length_push xs m

    go : Dec (k + 1 < length xs) → get_or (xs ++ m ∷ []) k 0 < get_or (xs ++ m ∷ []) (k + 1) 0
    go (yes b) = let c = r k b in let d = left k (omega arith) in let e = left (k + 1) b in omega arith
    go (no b) = let c = h (get_or xs k 0) (In-get_or xs k 0 (omega (arith, size))) in let d = left k (omega (arith, size)) in
        let e : get_or (xs ++ m ∷ []) (length xs + 0) 0 ≡ m = get_or-append-add xs (m ∷ []) 0 0 in
        let f : length xs + 0 ≡ k + 1 = omega (arith, size) in
        let g = subst (λ z. get_or (xs ++ m ∷ []) z 0 ≡ m) f e in omega arith

module _ (ends : ℕ → ℕ × ℕ) where
  greedy_below : (m k : ℕ) → In k (greedy_edges ends m) → k < m
  unfolding greedy_edges
  greedy_below zero k i = absurd i
  greedy_below (suc m) k i = elim (greedy-step ends m) [
    | inl h ↦ (let l = greedy_below m k (subst (In k) h.1 i) in omega arith)
    | inr h ↦ elim (In-append k (greedy_edges ends m) (m ∷ []) (subst (In k) h.1 i)) [
      | inl j ↦ (let l = greedy_below m k j in omega arith)
      | inr (inl e) ↦ omega arith
      | inr (inr n) ↦ absurd n
    ]
  ]

  -- what was kept of the edges below i stays
  kept_below : (i d : ℕ) → below i (greedy_edges ends (i + d)) ≡ greedy_edges ends i
  kept_below i zero = ap (λ n. below i (greedy_edges ends n)) (let e : i + 0 ≡ i = omega arith in e)
      ∙ all_below i (greedy_edges ends i) (greedy_below i)
  kept_below i (suc d) = ap (λ n. below i (greedy_edges ends n)) (let e : i + suc d ≡ suc (i + d) = omega arith in e)
      ∙ go (greedy-step ends (i + d)) ∙ kept_below i d
    where
      K : List ℕ
      K = greedy_edges ends (i + d)

      go : (Connected (kept ends (i + d)) (ends (i + d)).0 (ends (i + d)).1 × (greedy_edges ends (suc (i + d)) ≡ K)) ⊎
          (¬ (Connected (kept ends (i + d)) (ends (i + d)).0 (ends (i + d)).1) × (greedy_edges ends (suc (i + d)) ≡ K ++ (i + d) ∷ [])) →
          below i (greedy_edges ends (suc (i + d))) ≡ below i K
      go (inl h) = ap (below i) h.1
      go (inr h) = ap (below i) h.1 ∙ filter-append (λ k. nat_lt k i) K ((i + d) ∷ [])
          ∙ ap (λ b. below i K ++ cond b ((i + d) ∷ []) []) (not_below (i + d) i (omega arith)) ∙ append-nil (below i K)

  kept_then : (i m : ℕ) → i ≤ m → below i (greedy_edges ends m) ≡ greedy_edges ends i
  kept_then i m l = subst (λ z. below i (greedy_edges ends z) ≡ greedy_edges ends i) (let e : i + (m - i) ≡ m = omega arith in
      e) (kept_below i (m - i))

  -- edge i is in the forest exactly where it is kept at its step
  kept_at_step : (i m : ℕ) → i < m → In i (greedy_edges ends m) → In i (greedy_edges ends (suc i))
  kept_at_step i m l j = subst (In i) (kept_then (suc i) m (omega arith))
      (in_filter (λ k. nat_lt k (suc i)) (greedy_edges ends m) i j (lt-ltb i (suc i) (omega arith)))

  greedy_kept : (i m : ℕ) → i < m → In i (greedy_edges ends m) → ¬ (Connected (kept ends i) (ends i).0 (ends i).1)
  greedy_kept i m l j = elim (greedy-step ends i) [
    | inl h ↦ absurd (let k = greedy_below i i (subst (In i) h.1 (kept_at_step i m l j)) in omega arith)
    | inr h ↦ h.0
  ]

  greedy_left : (i m : ℕ) → i < m → ¬ (In i (greedy_edges ends m)) → Connected (kept ends i) (ends i).0 (ends i).1
  greedy_left i m l n = elim (greedy-step ends i) [
    | inl h ↦ h.0
    | inr h ↦ absurd (n (filter_in (λ k. nat_lt k (suc i)) (greedy_edges ends m) i
        (subst (In i) (sym (kept_then (suc i) m (omega arith) ∙ h.1))
        (In-append_right i (greedy_edges ends i) (i ∷ []) (inl refl)))).0)
  ]

  greedy_increasing : (m : ℕ) → IsStrictlyIncreasing (greedy_edges ends m)
  unfolding greedy_edges
  greedy_increasing zero = λ k l. absurd (omega arith)
  greedy_increasing (suc m) = go (greedy-step ends m) (greedy_increasing m)
    where
      go : (Connected (kept ends m) (ends m).0 (ends m).1 × (greedy_edges ends (suc m) ≡ greedy_edges ends m)) ⊎
          (¬ (Connected (kept ends m) (ends m).0 (ends m).1) × (greedy_edges ends (suc m) ≡ greedy_edges ends m ++ m ∷ [])) →
          IsStrictlyIncreasing (greedy_edges ends m) → IsStrictlyIncreasing (greedy_edges ends (suc m))
      go (inl h) r = subst IsStrictlyIncreasing (sym h.1) r
      go (inr h) r = subst IsStrictlyIncreasing (sym h.1) (increasing_push (greedy_edges ends m) m r (greedy_below m))

pub greedy_is : (E : List (ℕ × ℕ)) → IsGreedyForest E (greedy_edges (edge_at E) (length E))
greedy_is E = record {
  increasing = greedy_increasing (edge_at E) (length E);
  edges = λ i j. greedy_below (edge_at E) (length E) i j;
  kept = λ i j w. let l = greedy_below (edge_at E) (length E) i j in greedy_kept (edge_at E) i (length E) l j
      (connected_of_walk (kept (edge_at E) i) (edge_at E i).0 (edge_at E i).1
      (subst (λ z. Walk (map (edge_at E) z) (edge_at E i).0 (edge_at E i).1) (kept_then (edge_at E) i (length E) (omega arith)) w));
  left_out = λ i l n. subst (λ z. Walk (map (edge_at E) z) (edge_at E i).0 (edge_at E i).1)
      (sym (kept_then (edge_at E) i (length E) (omega arith)))
      (walk_of_connected (kept (edge_at E) i) (edge_at E i).0 (edge_at E i).1 (greedy_left (edge_at E) i (length E) l n));
}

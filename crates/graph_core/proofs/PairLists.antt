-- The gathered pairs of edges are all that have a common end, in order.
use Rattle.std.proofs.Common.{List, ◌≡◌, ℕ, ◌<◌, ◌⊎◌, inl, inr, [], ◌∷◌, Bool, ◌&&◌, ◌||◌, IsTrue, length, ltb, nat_eq, refl, sym, subst, ◌∙◌, arith}
use Rattle.std.specs.List.{AllPairs}
use Rattle.std.proofs.lemmas.Bool.{ltb-true, lt-ltb, eqb-true, eq-eqb, and_parts, and_from, or_cases, or_left, or_right}
use Rattle.vector_spaces.proofs.Members.{In}
use Rattle.graph_theory.specs.Walks.{edge_at}
use Rattle.graph_core.specs.Adjacency.{HaveCommonEnd, IsAdjacentPair, IsPairBefore, AreAdjacentPairs}
use Rattle.graph_core.specs.Gathered.{gathered, meets, pair_by, pairs_at}
use Rattle.graph_core.proofs.Gathered.{In-gathered, gathered-In, In-if, In_if-from, Pairwise, Pairwise-gathered, Pairwise-if, all_pairs}

common_of_meets : (d e : ℕ × ℕ) → IsTrue (meets d e) → HaveCommonEnd d e
common_of_meets d e h = elim (or_cases (nat_eq d.0 e.0 || nat_eq d.0 e.1) (nat_eq d.1 e.0 || nat_eq d.1 e.1) h) [
  | inl k ↦ (
    d.0,
    inl refl,
    elim (or_cases (nat_eq d.0 e.0) (nat_eq d.0 e.1) k) [
      | inl q ↦ inl (eqb-true d.0 e.0 q)
      | inr q ↦ inr
          (eqb-true d.0 e.1 q)
    ],
  )
  | inr k ↦ (
    d.1,
    inr refl,
    elim (or_cases (nat_eq d.1 e.0) (nat_eq d.1 e.1) k) [
      | inl q ↦ inl (eqb-true d.1 e.0 q)
      | inr q ↦ inr
          (eqb-true d.1 e.1 q)
    ],
  )
]

meets_of_common : (d e : ℕ × ℕ) → HaveCommonEnd d e → IsTrue (meets d e)
meets_of_common d e h = go h.1 h.2
  where
    go : (h.0 ≡ d.0) ⊎ (h.0 ≡ d.1) → (h.0 ≡ e.0) ⊎ (h.0 ≡ e.1) → IsTrue (meets d e)
    go (inl p) (inl q) = or_left (nat_eq d.0 e.0 || nat_eq d.0 e.1) (nat_eq d.1 e.0 || nat_eq d.1 e.1)
        (or_left (nat_eq d.0 e.0) (nat_eq d.0 e.1) (eq-eqb d.0 e.0 (sym p ∙ q)))
    go (inl p) (inr q) = or_left (nat_eq d.0 e.0 || nat_eq d.0 e.1) (nat_eq d.1 e.0 || nat_eq d.1 e.1)
        (or_right (nat_eq d.0 e.0) (nat_eq d.0 e.1) (eq-eqb d.0 e.1 (sym p ∙ q)))
    go (inr p) (inl q) = or_right (nat_eq d.0 e.0 || nat_eq d.0 e.1) (nat_eq d.1 e.0 || nat_eq d.1 e.1)
        (or_left (nat_eq d.1 e.0) (nat_eq d.1 e.1) (eq-eqb d.1 e.0 (sym p ∙ q)))
    go (inr p) (inr q) = or_right (nat_eq d.0 e.0 || nat_eq d.0 e.1) (nat_eq d.1 e.0 || nat_eq d.1 e.1)
        (or_right (nat_eq d.1 e.0) (nat_eq d.1 e.1) (eq-eqb d.1 e.1 (sym p ∙ q)))

module _ (E : List (ℕ × ℕ)) where
  abbrev ends : ℕ → ℕ × ℕ
  ends = edge_at E

  abbrev m : ℕ
  m = length E

  abbrev is_pair : ℕ → ℕ → Bool
  is_pair e f = ltb e f && meets (ends e) (ends f)

  at_second : (e f : ℕ) (p : ℕ × ℕ) → In p (pair_by ends e f) → IsTrue (is_pair e f) × (p ≡ (e, f))
  at_second e f p i = let r = In_if-from (is_pair e f) ((e, f) ∷ []) p i in (r.0, one r.1)
    where
      one : In p ((e, f) ∷ []) → p ≡ (e, f)
      one (inl q) = q
      one (inr k) = absurd k

  at_first : (e : ℕ) (p : ℕ × ℕ) → In p (pairs_at ends m e) → (f : ℕ) × (f < m) × IsTrue (is_pair e f) × (p ≡ (e, f))
  at_first e p i = let r = gathered-In (pair_by ends e) m p i in let s = at_second e r.0 p r.2 in (r.0, r.1, s.0, s.1)

  first_in_order : (e : ℕ) → Pairwise IsPairBefore (pairs_at ends m e)
  first_in_order e = Pairwise-gathered IsPairBefore (pair_by ends e) m
      (λ f. Pairwise-if IsPairBefore (is_pair e f) ((e, f) ∷ []) ((λ y k. absurd k), tt))
      (λ j k x y l i h. subst (λ z. IsPairBefore z y) (sym (at_second e j x i).1)
      (subst (IsPairBefore (e, j)) (sym (at_second e k y h).1) (inr (refl, l))))

  in_order : AllPairs IsPairBefore (gathered (pairs_at ends m) m)
  in_order = all_pairs IsPairBefore (gathered (pairs_at ends m) m) (Pairwise-gathered IsPairBefore (pairs_at ends m) m first_in_order
      (λ j k x y l i h. let s = at_first j x i in let r = at_first k y h in
      subst (λ z. IsPairBefore z y) (sym s.3) (subst (IsPairBefore (j, s.0)) (sym r.3) (inl l))))

  is_adjacent : (p : ℕ × ℕ) → In p (gathered (pairs_at ends m) m) → IsAdjacentPair E p
  is_adjacent p i =
      let e = gathered-In (pairs_at ends m) m p i in
      let f = at_first e.0 p e.2 in
      let h = and_parts (ltb e.0 f.0) (meets (ends e.0) (ends f.0)) f.2 in
      subst (IsAdjacentPair E) (sym f.3) (ltb-true e.0 f.0 h.0, f.1, common_of_meets (ends e.0) (ends f.0) h.1)

  adjacent_in : (p : ℕ × ℕ) → IsAdjacentPair E p → In p (gathered (pairs_at ends m) m)
  adjacent_in p h = In-gathered (pairs_at ends m) m p.0 p (omega (arith, h.0, h.1)) (In-gathered (pair_by ends p.0) m p.1 p h.1
      (In-if (is_pair p.0 p.1) (p ∷ []) p
      (and_from (ltb p.0 p.1) (meets (ends p.0) (ends p.1)) (lt-ltb p.0 p.1 h.0) (meets_of_common (ends p.0) (ends p.1) h.2)) (inl refl)))

  pub adjacent_pairs : AreAdjacentPairs E (gathered (pairs_at ends m) m)
  adjacent_pairs = record { each = is_adjacent; all = adjacent_in; ordered = in_order }

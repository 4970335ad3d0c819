-- The pairs of edges with a common end, in lexicographic order: there is one list of them, and it lists all pairs.
use Rattle.std.proofs.Common.{◌≡◌, ◌⊎◌, ℕ, suc, ◌<◌, inl, inr, List, [], ◌∷◌, length, refl, sym, ap₂, ◌∙◌, subst, arith}
use Rattle.std.proofs.Math.Decide.{dec_lt}
use Rattle.std.proofs.lemmas.List.{get_or_default}
use Rattle.std.specs.Prelude.{◌≢◌, ⊤, slice_index_or}
use Rattle.std.specs.List.{AllPairs}
use Rattle.vector_spaces.proofs.Members.{In, In-get_or, contains-In}
use Rattle.graph_theory.specs.Walks.{edge_at}
use Rattle.graph_core.specs.Adjacency.{AreAdjacentPairs, HaveCommonEnd as HaveCommonVertex, IsAdjacentPair, IsPairBefore}
use Rattle.edge_lists.specs.EdgeNumbers.{edge_numbers}
use Rattle.edge_lists.specs.EdgePairs.{HaveCommonEnd, ListsPairs}
use Rattle.edge_lists.proofs.EdgeNumbers.{numbers_all, numbers_below}
use Rattle.edge_lists.proofs.EdgePairs.{share_turned}

not_both_before : (p q : ℕ × ℕ) → IsPairBefore p q → ¬ (IsPairBefore q p)
not_both_before p q (inl l) (inl k) = omega arith
not_both_before p q (inl l) (inr (e, k)) = omega arith
not_both_before p q (inr (e, l)) (inl k) = omega arith
not_both_before p q (inr (e, l)) (inr (d, k)) = omega arith

-- each pair stands before all later ones
abbrev InOrder : List (ℕ × ℕ) → Type 0
InOrder [] = ⊤
InOrder (p ∷ P) = ((q : ℕ × ℕ) → In q P → IsPairBefore p q) × InOrder P

in_order : (P : List (ℕ × ℕ)) → AllPairs IsPairBefore P → InOrder P
in_order [] h = tt
in_order (p ∷ P) h = (
  λ q i. let c = contains-In P q i in
      subst (IsPairBefore p) (get_or_default P c.0 p q c.1 ∙ c.2) (h 0 (suc c.0) p (omega arith) (let l = c.1 in omega arith)),
  in_order P (λ i j d l m. h (suc i) (suc j) d (omega arith) (omega arith)),
)

-- lists in order with the same members are the same
same_in_order : (P Q : List (ℕ × ℕ)) → InOrder P → InOrder Q → ((p : ℕ × ℕ) → In p P → In p Q)
    → ((p : ℕ × ℕ) → In p Q → In p P) → P ≡ Q
same_in_order [] [] h k a b = refl
same_in_order [] (q ∷ Q) h k a b = absurd (b q (inl refl))
same_in_order (p ∷ P) [] h k a b = absurd (a p (inl refl))
same_in_order (p ∷ P) (q ∷ Q) h k a b = ap₂ (λ x xs. x ∷ xs) first (same_in_order P Q h.1 k.1 forward back)
  where
    first : p ≡ q
    first = elim (a p (inl refl)) [
      | inl e ↦ e
      | inr i ↦ elim (b q (inl refl)) [
        | inl e ↦ sym e
        | inr j ↦ absurd (not_both_before p q (h.0 q j) (k.0 p i))
      ]
    ]

    forward : (x : ℕ × ℕ) → In x P → In x Q
    forward x i = elim (a x (inr i)) [
      | inl e ↦ let l = subst (IsPairBefore p) (e ∙ sym first) (h.0 x i) in absurd (not_both_before p p l l)
      | inr j ↦ j
    ]

    back : (x : ℕ × ℕ) → In x Q → In x P
    back x i = elim (b x (inr i)) [
      | inl e ↦ let l = subst (IsPairBefore q) (e ∙ first) (k.0 x i) in absurd (not_both_before q q l l)
      | inr j ↦ j
    ]

pub one_pair_list : (E P Q : List (ℕ × ℕ)) → AreAdjacentPairs E P → AreAdjacentPairs E Q → P ≡ Q
one_pair_list E P Q A B = same_in_order P Q (in_order P A.ordered) (in_order Q B.ordered)
    (λ p i. B.all p (A.each p i)) (λ p i. A.all p (B.each p i))

module _ (E : List (ℕ × ℕ)) where
  abbrev pub ends : ℕ → ℕ × ℕ
  ends = edge_at E

  -- a common vertex is a common end
  pub share_of_common : (e f : ℕ) → HaveCommonVertex (ends e) (ends f) → HaveCommonEnd ends e f
  share_of_common e f (x, inl p, inl q) = inl (inl (sym p ∙ q))
  share_of_common e f (x, inl p, inr q) = inl (inr (sym p ∙ q))
  share_of_common e f (x, inr p, inl q) = inr (inl (sym p ∙ q))
  share_of_common e f (x, inr p, inr q) = inr (inr (sym p ∙ q))

  pub common_of_share : (e f : ℕ) → HaveCommonEnd ends e f → HaveCommonVertex (ends e) (ends f)
  common_of_share e f (inl (inl q)) = ((ends e).0, inl refl, inl q)
  common_of_share e f (inl (inr q)) = ((ends e).0, inl refl, inr q)
  common_of_share e f (inr (inl q)) = ((ends e).1, inr refl, inl q)
  common_of_share e f (inr (inr q)) = ((ends e).1, inr refl, inr q)

  module _ (P : List (ℕ × ℕ)) (A : AreAdjacentPairs E P) where
    abbrev pub pair : ℕ → ℕ × ℕ
    pair i = slice_index_or P i (0, 0)

    pub pair_is : (i : ℕ) → i < length P → IsAdjacentPair E (pair i)
    pair_is i l = A.each (pair i) (In-get_or P i (0, 0) l)

    place_of : (q : ℕ × ℕ) → IsAdjacentPair E q → (i : ℕ) × (i < length P) × (pair i ≡ q)
    place_of q a = let c = contains-In P q (A.all q a) in (c.0, c.1, get_or_default P c.0 (0, 0) q c.1 ∙ c.2)

    -- every pair of different edges with a common end is among them
    pub listed : ListsPairs ends (edge_numbers E) pair (length P)
    listed = record {
      first_in = λ i l. numbers_all E (pair i).0 (let a = (pair_is i l).0 in let b = (pair_is i l).1 in omega arith);
      second_in = λ i l. numbers_all E (pair i).1 (pair_is i l).1;
      share = λ i l. share_of_common (pair i).0 (pair i).1 (pair_is i l).2;
      every = λ e f i j n h. either e f (numbers_below E e i) (numbers_below E f j) n h;
    }
      where
        either : (e f : ℕ) → e < length E → f < length E → e ≢ f → HaveCommonEnd ends e f
            → (i : ℕ) × (i < length P) × ((pair i ≡ (e, f)) ⊎ (pair i ≡ (f, e)))
        either e f k l n h = go (dec_lt e f)
          where
            go : Dec (e < f) → (i : ℕ) × (i < length P) × ((pair i ≡ (e, f)) ⊎ (pair i ≡ (f, e)))
            go (yes l') = let r = place_of (e, f) (l', l, common_of_share e f h) in (r.0, r.1, inl r.2)
            go (no m) = let r = place_of (f, e) (omega arith, k, common_of_share f e (share_turned ends e f h)) in (r.0, r.1, inr r.2)

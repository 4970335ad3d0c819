-- How many pairs of edges have a common end, by any list of all of them.
use Rattle.std.proofs.Common.{◌≡◌, ℕ, suc, ◌*◌, ◌<◌, ◌≤◌, inl, inr, List, [], ◌∷◌, length, true, ◌||◌}
use Rattle.std.proofs.Common.{filter, map, refl, sym, ap, ◌∙◌, subst, arith}
use Rattle.std.specs.Prelude.{nat_eq, nat_lt}
use Rattle.std.specs.List.{AllPairs}
use Rattle.std.proofs.lemmas.Bool.{ltb-true, lt-ltb, and_parts, and_from, or_left, or_right, eqb-true, eq-eqb}
use Rattle.std.proofs.lemmas.Nat.{mul-le}
use Rattle.std.proofs.lemmas.List.{get_or_default, length-map}
use Rattle.std.proofs.lemmas.List.Sums.{length-filter, count_by-le-length}
use Rattle.graph_core.specs.Adjacency.{AreAdjacentPairs, HaveCommonEnd, IsAdjacentPair, IsPairBefore}
use Rattle.graph_theory.proofs.Numbers.{numbers_in, in_numbers, numbers_length, numbers_distinct}
use Rattle.graph_theory.proofs.Numbers.{in_filter, filter_in, filter_distinct, map_distinct}
use Rattle.graph_theory.specs.Matchings.{HasEnd}
use Rattle.graph_theory.specs.Numbers.{numbers_from}
use Rattle.graph_theory.specs.Walks.{edge_at}
use Rattle.parity_program.proofs.CountedTriangles.{distinct_pieces, length-pieces, one_of}
use Rattle.parity_program.specs.AdjacentPairs.{have_common_end, is_adjacent_pair, pairs_below, pair_count}
use Rattle.vector_spaces.proofs.Distinct.{IsDistinct, distinct_same_length}
use Rattle.vector_spaces.proofs.Members.{In, In-map, In_map-from, In-flat_map, In_flat_map-from, contains-In}

-- ---- a common end

common_from : (d e : ℕ × ℕ) → have_common_end d e ≡ true → HaveCommonEnd d e
common_from d e h = elim (one_of (nat_eq d.0 e.0 || nat_eq d.0 e.1) (nat_eq d.1 e.0 || nat_eq d.1 e.1) h) [
  | inl i ↦ elim (one_of (nat_eq d.0 e.0) (nat_eq d.0 e.1) i) [
    | inl j ↦ (d.0, inl refl, inl (eqb-true d.0 e.0 j))
    | inr j ↦ (d.0, inl refl, inr (eqb-true d.0 e.1 j))
  ]
  | inr i ↦ elim (one_of (nat_eq d.1 e.0) (nat_eq d.1 e.1) i) [
    | inl j ↦ (d.1, inr refl, inl (eqb-true d.1 e.0 j))
    | inr j ↦ (d.1, inr refl, inr (eqb-true d.1 e.1 j))
  ]
]

by_ends : (d e : ℕ × ℕ) (x : ℕ) → HasEnd d x → HasEnd e x → have_common_end d e ≡ true
by_ends d e x (inl i) (inl j) = or_left _ _ (or_left _ _ (eq-eqb d.0 e.0 (sym i ∙ j)))
by_ends d e x (inl i) (inr j) = or_left _ _ (or_right _ _ (eq-eqb d.0 e.1 (sym i ∙ j)))
by_ends d e x (inr i) (inl j) = or_right _ _ (or_left _ _ (eq-eqb d.1 e.0 (sym i ∙ j)))
by_ends d e x (inr i) (inr j) = or_right _ _ (or_right _ _ (eq-eqb d.1 e.1 (sym i ∙ j)))

pair_from : (E : List (ℕ × ℕ)) (p : ℕ × ℕ) → p.1 < length E → is_adjacent_pair E p ≡ true → IsAdjacentPair E p
pair_from E p within h =
    let both = and_parts (nat_lt p.0 p.1) (have_common_end (edge_at E p.0) (edge_at E p.1)) h in
    (ltb-true p.0 p.1 both.0, within, common_from (edge_at E p.0) (edge_at E p.1) both.1)

pair_true : (E : List (ℕ × ℕ)) (p : ℕ × ℕ) → IsAdjacentPair E p → is_adjacent_pair E p ≡ true
pair_true E p h =
    and_from (nat_lt p.0 p.1) (have_common_end (edge_at E p.0) (edge_at E p.1)) (lt-ltb p.0 p.1 h.0)
    (by_ends (edge_at E p.0) (edge_at E p.1) h.2.0 h.2.1 h.2.2)

-- ---- all pairs

-- a pair isn't before itself
not_before_itself : (p : ℕ × ℕ) → ¬ (IsPairBefore p p)
not_before_itself p (inl l) = omega (arith, l)
not_before_itself p (inr h) = let l = h.1 in omega (arith, l)

pairs_apart : (P : List (ℕ × ℕ)) → AllPairs IsPairBefore P → IsDistinct P
pairs_apart [] h = tt
pairs_apart (p ∷ P) h = (
  λ i. let c = contains-In P p i in
      not_before_itself p
      (subst (IsPairBefore p) (get_or_default P c.0 p p c.1 ∙ c.2) (h 0 (suc c.0) p (omega arith) (let l = c.1 in omega (arith, l)))),
  pairs_apart P (λ i j d l m. h (suc i) (suc j) d (omega (arith, l)) (omega (arith, m))),
)

module _ (n : ℕ) where
  abbrev numbers : List ℕ
  numbers = numbers_from 0 n

  abbrev with_first : ℕ → List (ℕ × ℕ)
  with_first a = map (λ b. (a, b)) numbers

  is_number : (x : ℕ) → x < n → In x numbers
  is_number x h = numbers_in 0 n x (omega arith) (omega (arith, h))

  in_pairs : (p : ℕ × ℕ) → p.0 < n → p.1 < n → In p (pairs_below n)
  in_pairs p h k = In-flat_map with_first numbers p.0 p (is_number p.0 h) (In-map (λ b. (p.0, b)) p.1 numbers (is_number p.1 k))

  the_first : (a : ℕ) (p : ℕ × ℕ) → In p (with_first a) → p.0 ≡ a
  the_first a p i = let r = In_map-from (λ b. (a, b)) p numbers i in ap (λ q. q.0) r.2

  second_below : (p : ℕ × ℕ) → In p (pairs_below n) → p.1 < n
  second_below p i =
      let r = In_flat_map-from with_first numbers p i in
      let s = In_map-from (λ b. (r.0, b)) p numbers r.2 in
      let l = (in_numbers 0 n s.0 s.1).1 in
      subst (λ y. y < n) (sym (ap (λ q. q.1) s.2)) (omega (arith, l))

  pairs_distinct : IsDistinct (pairs_below n)
  pairs_distinct =
      distinct_pieces with_first numbers (numbers_distinct 0 n)
      (λ a. map_distinct (λ b. (a, b)) numbers (λ b c e. ap (λ q. q.1) e) (numbers_distinct 0 n))
      (λ a b p i j. sym (the_first a p i) ∙ the_first b p j)

  pairs_length : length (pairs_below n) ≡ n * n
  pairs_length =
      let many = numbers_length 0 n in
      length-pieces with_first n numbers (λ a. length-map numbers (λ b. (a, b)) ∙ many) ∙ ap (λ k. k * n) many

-- a list of all pairs is as long as they are many
pub counted : (E P : List (ℕ × ℕ)) → AreAdjacentPairs E P → length P ≡ pair_count E
unfolding pair_count
counted E P all =
    let n : ℕ = length E in
    distinct_same_length P (filter (is_adjacent_pair E) (pairs_below n)) (pairs_apart P all.ordered)
    (filter_distinct (is_adjacent_pair E) (pairs_below n) (pairs_distinct n))
    (λ p i. let h = all.each p i in let first = h.0 in let second = h.1 in
    in_filter (is_adjacent_pair E) (pairs_below n) p (in_pairs n p (omega (arith, first, second)) second) (pair_true E p h))
    (λ p i. let k = filter_in (is_adjacent_pair E) (pairs_below n) p i in all.all p (pair_from E p (second_below n p k.0) k.1))
    ∙ length-filter (is_adjacent_pair E) (pairs_below n)

-- at most 512 edges have fewer than 2^32 of them
pub few : (E : List (ℕ × ℕ)) → length E ≤ 512 → pair_count E ≤ 262144
unfolding pair_count
few E h =
    let n : ℕ = length E in
    let a = count_by-le-length (is_adjacent_pair E) (pairs_below n) in
    let b = pairs_length n in
    let square : n * n ≤ 512 * 512 = mul-le n n 512 512 h h in
    omega (arith, a, b, square)

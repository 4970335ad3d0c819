-- The problems of pairs: their lines by the vectors of edges, and one line more.
use Rattle.std.proofs.Common.{◌≡◌, ℕ, suc, ◌+◌, ◌<◌, ◌/◌, ◌*◌, All, inl, inr, List, [], ◌∷◌, ◌++◌, length, map}
use Rattle.std.proofs.Common.{refl, sym, ap, ap₂, ◌∙◌, subst, arith}
use Rattle.std.proofs.Math.Nat.{mul-div-le}
use Rattle.std.proofs.lemmas.List.{length-map, get_or-map}
use Rattle.std.proofs.lemmas.List.FromFn.{get_or-range_with_len, length-range_with_len, map-range_with_len_more}
use Rattle.std.specs.List.{range_with_len}
use Rattle.std.specs.Prelude.{◌↔◌}
use Rattle.vector_spaces.proofs.Members.{In, In-all}
use Rattle.linear_algebra.specs.Scalars.{Scalars}
use Rattle.parity_lines.specs.LineSets.{IsLineSet, IsIndependentSet, IsLargest}
use Rattle.parity_lines.specs.Problems.{ParityProblem, line_at, vectors_at}
use Rattle.pairs_theory.specs.PairsOfEdges.{edges_of_pairs}
use Rattle.forest_pairs_front.specs.ListedPairs.{ArePairs, IsLongest, pair_count}
use Rattle.forest_pairs_front.specs.PairLines.{first_pairs, pair_line}

-- both edges of a pair are edges
pub second_edge : (m i : ℕ) → i < m / 2 → suc (i + i) < m
second_edge m i l = omega (arith, mul-div-le m 2)

pub pair_within : (E : List (ℕ × ℕ)) (M : List ℕ) → ArePairs E M → (i : ℕ) → In i M → suc (i + i) < length E
pair_within E M h i j = second_edge (length E) i (In-all (λ k. k < pair_count E) M h.within i j)

module _ (d : ℕ) (vector : ℕ → List ℕ) where
  pub pairs-length : (k : ℕ) → length (first_pairs d vector k).lines ≡ k
  pairs-length k = length-map (range_with_len 0 k) (pair_line vector) ∙ length-range_with_len 0 k

  pub line-pair : (k i : ℕ) → i < k → line_at (first_pairs d vector k) i ≡ pair_line vector i
  line-pair k i l = get_or-map (pair_line vector) (range_with_len 0 k) i 0 ([], []) (subst (λ z. i < z) (sym (length-range_with_len 0 k)) l)
      ∙ ap (pair_line vector) (let e = get_or-range_with_len 0 k i 0 l in omega arith)

  -- the vectors of lines are those of the edges of the pairs
  pub pairs-vectors : (k : ℕ) (M : List ℕ) → ((i : ℕ) → In i M → i < k)
      → vectors_at (first_pairs d vector k) M ≡ map vector (edges_of_pairs M)
  unfolding vectors_at
  pairs-vectors k [] h = refl
  pairs-vectors k (i ∷ M) h =
      let line = line-pair k i (h i (inl refl)) in
      ap₂ (λ u rest. u ∷ rest) (ap (λ (l : List ℕ × List ℕ). l.0) line)
      (ap₂ (λ u rest. u ∷ rest) (ap (λ (l : List ℕ × List ℕ). l.1) line) (pairs-vectors k M (λ j m. h j (inr m))))

  pub one_pair_more : (k : ℕ) (p q : ParityProblem) (u v : List ℕ) → p ≡ first_pairs d vector k
      → q ≡ record p { lines = p.lines ++ (u, v) ∷ [] } → u ≡ vector (2 * k) → v ≡ vector (2 * k + 1) → q ≡ first_pairs d vector (k + 1)
  one_pair_more k p q u v h e first second =
      e ∙ ap₂ (λ (r : ParityProblem) x. record r { lines = r.lines ++ x ∷ [] }) h
      (ap₂ (λ x y. (x, y)) (first ∙ ap vector (omega arith)) (second ∙ ap vector (omega arith)))
      ∙ ap (λ ls. record { dimension = d; lines = ls }) (sym (map-range_with_len_more (pair_line vector) 0 k k (omega arith)))

  -- where the vectors are those of two rows
  pub one_pair_more_by : (k : ℕ) (p q : ParityProblem) (u v a b : List ℕ) → p ≡ first_pairs d vector k
      → q ≡ record p { lines = p.lines ++ (u, v) ∷ [] } → u ≡ a → a ≡ vector (2 * k) → v ≡ b → b ≡ vector (2 * k + 1)
      → q ≡ first_pairs d vector (k + 1)
  one_pair_more_by k p q u v a b h e first a_is second b_is = one_pair_more k p q u v h e (first ∙ a_is) (second ∙ b_is)

  module _ (E : List (ℕ × ℕ)) where
    -- sets of lines are lists of pairs
    pub pairs_of_set : (M : List ℕ) → IsLineSet (first_pairs d vector (pair_count E)) M → ArePairs E M
    pairs_of_set M h = record {
      increasing = h.increasing;
      within = subst (λ z. All (λ i. i < z) M) (pairs-length (pair_count E)) h.within;
    }

    pub set_of_pairs : (M : List ℕ) → ArePairs E M → IsLineSet (first_pairs d vector (pair_count E)) M
    set_of_pairs M h = record {
      increasing = h.increasing;
      within = subst (λ z. All (λ i. i < z) M) (sym (pairs-length (pair_count E))) h.within;
    }

-- where the independent sets are the lists with P, the largest are the longest
pub largest_and_longest : (S : Scalars) (p : ParityProblem) (P : List ℕ → Type 0) → ((M : List ℕ) → IsIndependentSet S p M ↔ P M)
    → (M : List ℕ) → IsLargest S p M ↔ IsLongest P M
largest_and_longest S p P same M = (
  λ h. record { is = (same M).0 h.independent_set; most = λ L k. h.most L ((same L).1 k) },
  λ h. record { independent_set = (same M).1 h.is; most = λ J k. h.most J ((same J).0 k) },
)

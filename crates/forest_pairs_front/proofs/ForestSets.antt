-- In characteristic two the independent sets of the problem of forests of pairs are the pairs whose edges have no cycle.
use Rattle.std.proofs.Common.{◌≡◌, ℕ, ◌<◌, All, inl, inr, List, [], ◌∷◌, length, refl, sym, ap, ap₂, ◌∙◌, subst}
use Rattle.std.specs.Prelude.{◌↔◌}
use Rattle.vector_spaces.proofs.Distinct.{increasing_distinct}
use Rattle.vector_spaces.proofs.Independence.{IsIndependent as IsIndependent_of}
use Rattle.vector_spaces.proofs.Members.{In, In-all, In-get_or}
use Rattle.vector_spaces.proofs.Tuples.{Tuple}
use Rattle.linear_algebra.specs.Scalars.{Scalars, IsField}
use Rattle.linear_algebra.proofs.Coordinates.{space, tuple}
use Rattle.linear_algebra.proofs.Elements.{Element, scalar_field}
use Rattle.edge_lists.specs.Connections.{AreBelow}
use Rattle.graph_theory.specs.Walks.{edge_at}
use Rattle.graph_theory.proofs.Units.{unit, unit_vertices}
use Rattle.graph_problems.proofs.ListedLines.{listed_problem}
use Rattle.graph_problems.proofs.ProblemTuples.{set_from_tuples, set_to_tuples}
use Rattle.pairs_theory.specs.PairsOfEdges.{edge_pair, edges_of_pairs}
use Rattle.pairs_theory.proofs.ForestPairs.{forest_line, forest_pairs_of_lines, lines_of_forest_pairs}
use Rattle.pairs_theory.proofs.PairsOfEdges.{pair_edges_below}
use Rattle.parity_lines.specs.LineSets.{IsIndependentSet, IsLargest}
use Rattle.parity_lines.specs.Problems.{IsProblem, ParityProblem}
use Rattle.parity_lines.proofs.Border.{tuples_at}
use Rattle.parity_theory.proofs.Lines.{vectors}
use Rattle.std.specs.List.{range_with_len}
use Rattle.forest_pairs_front.specs.ListedPairs.{ArePairForest, ArePairs, IsLongest, pair_count}
use Rattle.forest_pairs_front.specs.PairLines.{edge_sum, forest_problem, pair_line}
use Rattle.forest_pairs_front.proofs.EndSums.{elements_cancel, end_sum-tuple, end_sum-vector}
use Rattle.forest_pairs_front.proofs.PairProblems.{largest_and_longest, line-pair, pair_within, pairs_of_set, set_of_pairs}

module _ (S : Scalars) (F : IsField S) (cancel : S.sum S.one S.one ≡ S.zero) (n : ℕ) (E : List (ℕ × ℕ)) where
  abbrev vector : ℕ → List ℕ
  vector = edge_sum S n E

  abbrev line : ℕ → Tuple (Element S) n × Tuple (Element S) n
  line = forest_line (space S F n) (elements_cancel S F cancel) (unit (scalar_field S F) n) (edge_at E)

  is_problem : IsProblem S (forest_problem S n E)
  is_problem = listed_problem S n (pair_line vector) (range_with_len 0 (pair_count E))
      (λ i j. (end_sum-vector S F n (edge_at E (edge_pair i).0), end_sum-vector S F n (edge_at E (edge_pair i).1)))

  tuples-lines : (M : List ℕ) → ((i : ℕ) → In i M → i < pair_count E) → vectors (tuples_at S F (forest_problem S n E)) M ≡ vectors line M
  tuples-lines [] h = refl
  tuples-lines (i ∷ M) h =
      let at = line-pair n vector (pair_count E) i (h i (inl refl)) in
      ap₂ (λ u rest. u ∷ rest) (ap (λ (l : List ℕ × List ℕ). tuple S F n l.0) at ∙ end_sum-tuple S F n (edge_at E (edge_pair i).0))
      (ap₂ (λ u rest. u ∷ rest) (ap (λ (l : List ℕ × List ℕ). tuple S F n l.1) at ∙ end_sum-tuple S F n (edge_at E (edge_pair i).1))
      (tuples-lines M (λ j m. h j (inr m))))

  pub forest_of_set : (M : List ℕ) → IsIndependentSet S (forest_problem S n E) M → ArePairForest E M
  forest_of_set M h = record {
    pairs = pairs;
    forest = forest_pairs_of_lines (space S F n) (elements_cancel S F cancel) (unit (scalar_field S F) n) (edge_at E) M
        (subst (IsIndependent_of (space S F n)) (tuples-lines M (In-all (λ i. i < pair_count E) M pairs.within))
        (set_to_tuples S F (forest_problem S n E) is_problem M h));
  }
    where
      pairs : ArePairs E M
      pairs = pairs_of_set n vector E M h.line_set

  module _ (below : All (AreBelow n) E) where
    ends_below : (M : List ℕ) → ArePairs E M → (e : ℕ) → In e (edges_of_pairs M) → AreBelow n (edge_at E e)
    ends_below M h e i = In-all (AreBelow n) E below (edge_at E e)
        (In-get_or E e (0, 0) (pair_edges_below (length E) M (pair_within E M h) e i))

    pub set_of_forest : (M : List ℕ) → ArePairForest E M → IsIndependentSet S (forest_problem S n E) M
    set_of_forest M k = set_from_tuples S F (forest_problem S n E) is_problem M (set_of_pairs n vector E M k.pairs)
        (subst (IsIndependent_of (space S F n)) (sym (tuples-lines M (In-all (λ i. i < pair_count E) M k.pairs.within)))
        (lines_of_forest_pairs (space S F n) (elements_cancel S F cancel) (unit (scalar_field S F) n) (edge_at E) n
        (unit_vertices (scalar_field S F) n) M (ends_below M k.pairs) (increasing_distinct M k.pairs.increasing) k.forest))

    -- of a problem that is this one
    pub forest_sets : (p : ParityProblem) → p ≡ forest_problem S n E → (M : List ℕ) → IsIndependentSet S p M ↔ ArePairForest E M
    forest_sets p is M = (
      λ h. forest_of_set M (subst (λ q. IsIndependentSet S q M) is h),
      λ k. subst (λ q. IsIndependentSet S q M) (sym is) (set_of_forest M k),
    )

    pub largest_forests : (p : ParityProblem) → p ≡ forest_problem S n E → (M : List ℕ) → IsLargest S p M ↔ IsLongest (ArePairForest E) M
    largest_forests p is M = largest_and_longest S p (ArePairForest E) (forest_sets p is) M

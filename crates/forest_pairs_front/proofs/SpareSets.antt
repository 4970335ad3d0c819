-- The independent sets of a problem of cographic vectors are the pairs without whose edges the graph is connected.
use Rattle.std.proofs.Common.{◌≡◌, ℕ, ◌<◌, All, List, length, sym, subst}
use Rattle.std.specs.Prelude.{◌↔◌}
use Rattle.vector_spaces.proofs.Distinct.{IsDistinct, increasing_distinct}
use Rattle.vector_spaces.proofs.Members.{In-all, all-In}
use Rattle.linear_algebra.specs.Scalars.{Scalars, IsField}
use Rattle.linear_algebra.specs.Spans.{IsIndependent}
use Rattle.field_core.specs.Matrix.{Matrix}
use Rattle.cographic.specs.CographicRows.{vectors_of}
use Rattle.cographic.proofs.CographicLaw.{cographic_law}
use Rattle.edge_lists.specs.Connections.{AreBelow, IsConnected}
use Rattle.edge_lists.specs.EdgeNumbers.{edge_numbers}
use Rattle.edge_lists.specs.Occurrences.{without}
use Rattle.graph_theory.specs.Walks.{edge_at}
use Rattle.pairs_theory.specs.PairsOfEdges.{edges_of_pairs}
use Rattle.pairs_theory.proofs.PairsOfEdges.{pair_edges_below, pairs_distinct}
use Rattle.parity_lines.specs.LineSets.{IsIndependentSet, IsLargest}
use Rattle.parity_lines.specs.Problems.{ParityProblem, vectors_at}
use Rattle.forest_pairs_front.specs.ListedPairs.{ArePairs, AreSparePairs, IsLongest, pair_count}
use Rattle.forest_pairs_front.specs.PairLines.{IsSpareProblem, edge_row, row_problem}
use Rattle.forest_pairs_front.proofs.PairProblems.{largest_and_longest, pair_within, pairs-vectors, pairs_of_set, set_of_pairs}

module _ (S : Scalars) (n : ℕ) (E : List (ℕ × ℕ)) (m : Matrix)
    (law : (L : List ℕ) → All (λ e. e < length E) L
    → IsIndependent S m.width (vectors_of m L) ↔ (IsDistinct L × IsConnected (edge_at E) n (without L (edge_numbers E)))) where
  abbrev row : ℕ → List ℕ
  row = edge_row m

  rows-pairs : (M : List ℕ) → ArePairs E M → vectors_at (row_problem m E) M ≡ vectors_of m (edges_of_pairs M)
  rows-pairs M h = pairs-vectors m.width row (pair_count E) M (In-all (λ i. i < pair_count E) M h.within)

  edges_below : (M : List ℕ) → ArePairs E M → All (λ e. e < length E) (edges_of_pairs M)
  edges_below M h = all-In (λ e. e < length E) (edges_of_pairs M) (pair_edges_below (length E) M (pair_within E M h))

  pub spare_of_set : (M : List ℕ) → IsIndependentSet S (row_problem m E) M → AreSparePairs n E M
  spare_of_set M h = record {
    pairs = pairs;
    spare = ((law (edges_of_pairs M) (edges_below M pairs)).0 (subst (IsIndependent S m.width) (rows-pairs M pairs) h.independent)).1;
  }
    where
      pairs : ArePairs E M
      pairs = pairs_of_set m.width row E M h.line_set

  pub set_of_spare : (M : List ℕ) → AreSparePairs n E M → IsIndependentSet S (row_problem m E) M
  set_of_spare M k = record {
    line_set = set_of_pairs m.width row E M k.pairs;
    independent = subst (IsIndependent S m.width) (sym (rows-pairs M k.pairs)) ((law (edges_of_pairs M) (edges_below M k.pairs)).1
        (pairs_distinct M (increasing_distinct M k.pairs.increasing), k.spare));
  }

-- of a problem of cographic vectors
module _ (S : Scalars) (F : IsField S) (two : S.order ≡ 2) (n : ℕ) (E : List (ℕ × ℕ)) (below : All (AreBelow n) E)
    (connected : IsConnected (edge_at E) n (edge_numbers E)) (p : ParityProblem) (G : IsSpareProblem S E p) where
  pub spare_sets : (M : List ℕ) → IsIndependentSet S p M ↔ AreSparePairs n E M
  spare_sets M = (
    λ h. spare_of_set S n E G.rows (cographic_law S F two E n G.rows G.cographic below connected) M
        (subst (λ q. IsIndependentSet S q M) G.problem h),
    λ k. subst (λ q. IsIndependentSet S q M) (sym G.problem)
        (set_of_spare S n E G.rows (cographic_law S F two E n G.rows G.cographic below connected) M k),
  )

  pub largest_spares : (M : List ℕ) → IsLargest S p M ↔ IsLongest (AreSparePairs n E) M
  largest_spares M = largest_and_longest S p (AreSparePairs n E) spare_sets M

-- In a connected cubic simple graph the independent sets of the problem of pairs give feedback sets, and these give such sets.
use Rattle.std.proofs.Common.{◌≡◌, ℕ, ◌+◌, ◌/◌, ◌≤◌, List, All, length, arith}
use Rattle.linear_algebra.specs.Scalars.{Scalars, IsField}
use Rattle.parity_lines.specs.LineSets.{IsIndependentSet, IsLargest}
use Rattle.parity_lines.specs.Problems.{ParityProblem}
use Rattle.graph_theory.specs.Walks.{edge_at}
use Rattle.edge_lists.specs.Connections.{AreBelow, IsConnected}
use Rattle.edge_lists.specs.EdgeNumbers.{edge_numbers}
use Rattle.genus_front.specs.GenusProblems.{IsGenusProblem}
use Rattle.genus_front.proofs.LargestSets.{LinesOf, lines_of_pairs, pairs_of_lines}
use Rattle.cubic_front.specs.CubicGraphs.{IsCubic}
use Rattle.cubic_front.specs.FeedbackVertexSets.{IsFeedbackVertexSet, IsLeastFeedbackVertexSet}
use Rattle.cubic_front.proofs.FeedbackVertices.{pairs_of_vertices, vertices_of_pairs}

module _ (S : Scalars) (F : IsField S) (two : S.order ≡ 2) (E : List (ℕ × ℕ)) (n : ℕ) (one : 1 ≤ n) (B : All (AreBelow n) E)
    (C : IsConnected (edge_at E) n (edge_numbers E)) (K : IsCubic n E) (p : ParityProblem) (G : IsGenusProblem S E p) where
  pub vertices_of_set : (M : List ℕ) → IsIndependentSet S p M
      → (X : List ℕ) × IsFeedbackVertexSet n E X × (length X + length M ≤ n / 2 + 1)
  vertices_of_set M h = vertices_of_pairs n E one B C K (length M) (pairs_of_lines S F two E n B C p G M h)

  pub set_of_vertices : (X : List ℕ) → IsFeedbackVertexSet n E X
      → (M : List ℕ) × IsIndependentSet S p M × (n / 2 + 1 ≤ length X + length M)
  set_of_vertices X f =
      let r = pairs_of_vertices n E one B C K X f in
      let l : LinesOf S F two E n B C p G r.0 = lines_of_pairs S F two E n B C p G r.0 r.1 in
      (l.M, l.independent, (let s = l.size in let h = r.2 in omega arith))

  -- a feedback set that is so small is least where the set is largest
  pub least_of_largest : (M : List ℕ) → IsLargest S p M → (X : List ℕ) → IsFeedbackVertexSet n E X
      → length X + length M ≤ n / 2 + 1 → IsLeastFeedbackVertexSet n E X
  least_of_largest M L X f s = record {
    feedback = f;
    least = λ Y g. let r = set_of_vertices Y g in let m = L.most r.0 r.1 in let h = r.2 in omega arith;
  }

  pub add_up : (M X : List ℕ) → IsLargest S p M → IsLeastFeedbackVertexSet n E X → length X + length M ≡ n / 2 + 1
  add_up M X L f =
      let v = vertices_of_set M L.independent_set in
      let r = set_of_vertices X f.feedback in
      let m = L.most r.0 r.1 in
      let l = f.least v.0 v.1 in
      let h = v.2 in
      let k = r.2 in
      omega arith

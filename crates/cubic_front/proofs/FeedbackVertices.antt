-- In a connected cubic simple graph: feedback sets of pairs, pairs of feedback sets, and their numbers.
use Rattle.std.proofs.Common.{◌≡◌, ℕ, zero, suc, ◌+◌, ◌*◌, ◌/◌, ◌<◌, ◌≤◌, List, All, length, refl, arith}
use Rattle.vector_spaces.proofs.Distinct.{distinct_at_most, increasing_distinct}
use Rattle.vector_spaces.proofs.Members.{In, all-In}
use Rattle.graph_theory.specs.Walks.{edge_at}
use Rattle.graph_problems.proofs.Positions.{arranged}
use Rattle.edge_lists.specs.Connections.{AreBelow, IsConnected, IsGraph, one_component}
use Rattle.edge_lists.specs.EdgeNumbers.{edge_numbers}
use Rattle.edge_lists.specs.EdgePairs.{XuongPairs}
use Rattle.edge_lists.proofs.EdgeNumbers.{numbers_single}
use Rattle.edge_lists.proofs.Occurrences.{count_of_distinct, count_of_in}
use Rattle.feedback_theory.specs.FeedbackSets.{IsFeedbackSet, LeavesForest}
use Rattle.feedback_theory.proofs.Cycles.{feedback_of_forest, forest_of_feedback}
use Rattle.feedback_theory.proofs.Degrees.{handshake}
use Rattle.feedback_theory.proofs.FeedbackOfPairs.{FeedbackOf, feedback_of_pairs}
use Rattle.feedback_theory.proofs.PairsOfFeedback.{pairs_of_feedback}
use Rattle.cubic_front.specs.CubicGraphs.{IsCubic}
use Rattle.cubic_front.specs.FeedbackVertexSets.{IsFeedbackVertexSet}
use Rattle.cubic_front.proofs.CubicGraphs.{below, simple, three_at_most, three_each}

one_of : (n : ℕ) → 1 ≤ n → one_component n ≡ 1
one_of zero l = absurd (omega arith)
one_of (suc n) l = refl

module _ (n : ℕ) (E : List (ℕ × ℕ)) (one : 1 ≤ n) (B : All (AreBelow n) E) (C : IsConnected (edge_at E) n (edge_numbers E))
    (K : IsCubic n E) where
  abbrev ends : ℕ → ℕ × ℕ
  ends = edge_at E

  abbrev all : List ℕ
  all = edge_numbers E

  graph : IsGraph ends n all
  graph = record { single = numbers_single E; below = below n E B K }

  -- twice the edges are three times the vertices, so the cycle rank is half the vertices and one
  rank : length all + length all ≡ 3 * n
  rank = handshake ends n all (below n E B K) (three_each n E B K)

  pub number_most : (x g : ℕ) → x + g + n ≤ length all + one_component n → x + g ≤ n / 2 + 1
  number_most x g h = let r = rank in let o = one_of n one in omega arith

  pub number_least : (x g : ℕ) → length all + one_component n ≤ g + x + n → n / 2 + 1 ≤ x + g
  number_least x g h = let r = rank in let o = one_of n one in omega arith

  -- vertices that meet every cycle, in order
  in_order : (X : List ℕ) → ((v : ℕ) → In v X → v < n) → IsFeedbackSet ends all X
      → (Y : List ℕ) × IsFeedbackVertexSet n E Y × (length Y ≤ length X)
  in_order X h M = let a = arranged n X h in (
    a.0,
    record {
      increasing = a.1;
      within = all-In (λ v. v < n) a.0 (λ v i. h v (a.3 v i));
      meets = λ p vs c. let m = M p vs c in (m.0, m.1, a.2 m.0 m.2);
    },
    distinct_at_most a.0 X (increasing_distinct a.0 a.1) a.3,
  )

  pub vertices_of_pairs : (g : ℕ) → XuongPairs ends n all g → (X : List ℕ) × IsFeedbackVertexSet n E X × (length X + g ≤ n / 2 + 1)
  vertices_of_pairs g P =
      let f : FeedbackOf ends n all g = feedback_of_pairs ends n all graph g P in
      let o = in_order f.X (λ v i. f.below v (count_of_in v f.X i)) (feedback_of_forest ends all f.X f.feedback) in
      (o.0, o.1, number_most (length o.0) g (let s = f.size in let l = o.2 in omega arith))

  pub pairs_of_vertices : (X : List ℕ) → IsFeedbackVertexSet n E X → (g : ℕ) × XuongPairs ends n all g × (n / 2 + 1 ≤ length X + g)
  pairs_of_vertices X F =
      let S = simple n E B K in
      let L : LeavesForest ends all X = forest_of_feedback ends all X (numbers_single E) S F.meets in
      let p = pairs_of_feedback ends n all graph S.no_loop C (three_at_most n E B K) X
      (count_of_distinct X (increasing_distinct X F.increasing)) L in
      (p.0, p.1, number_least (length X) p.0 p.2)

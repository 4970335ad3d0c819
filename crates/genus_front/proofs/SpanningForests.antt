-- Forests that join what a list of edges joins, with one edge more.
use Rattle.std.proofs.Common.{◌≡◌, ℕ, ◌<◌, ◌≤◌, inl, inr, List, [], ◌∷◌, ◌++◌, All, map, refl, subst, arith}
use Rattle.std.proofs.Math.Decide.{ℕ_discrete}
use Rattle.vector_spaces.proofs.Members.{In, In-all, all-In}
use Rattle.graph_theory.specs.Walks.{Walk}
use Rattle.graph_theory.proofs.Walks.{connected_of_walk, walk_of_connected}
use Rattle.edge_lists.specs.Connections.{Joined}
use Rattle.edge_lists.specs.Occurrences.{count}
use Rattle.edge_lists.proofs.Connections.{decide_joined, joined_edge, joined_from, joined_more}
use Rattle.edge_lists.proofs.Occurrences.{count-append, count-nil, count-other, count_of_in, in_of_count}
use Rattle.edge_lists.proofs.SameEdges.{forest_same}
use Rattle.genus_front.specs.SpanningForests.{IsSpanningForest}

module _ (ends : ℕ → ℕ × ℕ) where
  pub forest_of_none : IsSpanningForest ends [] []
  forest_of_none = record { forest = tt; inside = λ e i. i; joins = λ u v j. j }

  -- the last edge, where others are joined
  last_or : (K : List ℕ) (e : ℕ) (u v : ℕ) (T : List ℕ) → ((c : ℕ) → 1 ≤ count c K → Joined ends T (ends c).0 (ends c).1)
      → Joined ends T (ends e).0 (ends e).1 → Joined ends (K ++ e ∷ []) u v → Joined ends T u v
  last_or K e u v T others last j = joined_from ends (K ++ e ∷ []) T (λ c i. go c i (ℕ_discrete e c)) u v j
    where
      go : (c : ℕ) → 1 ≤ count c (K ++ e ∷ []) → Dec (e ≡ c) → Joined ends T (ends c).0 (ends c).1
      go c i (yes q) = subst (λ t. Joined ends T (ends t).0 (ends t).1) q last
      go c i (no n) = others c (omega (arith, i, count-append c K (e ∷ []), count-other c e [] n, count-nil c))

  -- an edge whose ends are not joined
  pub forest_more : (K T : List ℕ) (e : ℕ) → ¬ (Walk (map ends T) (ends e).0 (ends e).1) → IsSpanningForest ends K T
      → IsSpanningForest ends (K ++ e ∷ []) (T ++ e ∷ [])
  forest_more K T e n F = record {
    forest = forest_same ends (e ∷ T) (T ++ e ∷ []) (λ c. omega (arith, count-append c (e ∷ []) T, count-append c T (e ∷ [])))
        (F.forest, λ j. n (walk_of_connected (map ends T) (ends e).0 (ends e).1 j));
    inside = λ c i. both c i (ℕ_discrete (count c T) 0);
    joins = λ u v j. last_or K e u v (T ++ e ∷ [])
        (λ c i. more (ends c).0 (ends c).1 (F.joins (ends c).0 (ends c).1 (joined_edge ends c K i)))
        (joined_edge ends e (T ++ e ∷ []) (count_of_in e (T ++ e ∷ []) (in_last T)))
        j;
  }
    where
      in_last : (T : List ℕ) → In e (T ++ e ∷ [])
      in_last [] = inl refl
      in_last (c ∷ T) = inr (in_last T)

      both : (c : ℕ) → 1 ≤ count c (T ++ e ∷ []) → Dec (count c T ≡ 0) → 1 ≤ count c (K ++ e ∷ [])
      both c i (yes z) = omega (arith, i, z, count-append c T (e ∷ []), count-append c K (e ∷ []))
      both c i (no k) = omega (arith, F.inside c (omega arith), count-append c K (e ∷ []))

      more : (u v : ℕ) → Joined ends T u v → Joined ends (T ++ e ∷ []) u v
      more u v j = joined_more ends T (T ++ e ∷ []) (λ c i. omega (arith, i, count-append c T (e ∷ []))) u v j

  -- an edge whose ends are joined
  pub forest_kept : (K T : List ℕ) (e : ℕ) → ¬ (¬ (Walk (map ends T) (ends e).0 (ends e).1)) → IsSpanningForest ends K T
      → IsSpanningForest ends (K ++ e ∷ []) T
  forest_kept K T e n F = record {
    forest = F.forest;
    inside = λ c i. omega (arith, F.inside c i, count-append c K (e ∷ []));
    joins = λ u v j. last_or K e u v T (λ c i. F.joins (ends c).0 (ends c).1 (joined_edge ends c K i))
        (go (decide_joined ends T (ends e).0 (ends e).1)) j;
  }
    where
      go : Dec (Joined ends T (ends e).0 (ends e).1) → Joined ends T (ends e).0 (ends e).1
      go (yes j) = j
      go (no m) = absurd (n (λ w. m (connected_of_walk (map ends T) (ends e).0 (ends e).1 w)))

  -- edges of the list alone
  pub forest_below : (m : ℕ) (K T : List ℕ) → IsSpanningForest ends K T → All (λ e. e < m) K → All (λ e. e < m) T
  forest_below m K T F h = all-In (λ e. e < m) T (λ e i. In-all (λ e. e < m) K h e (in_of_count e K (F.inside e (count_of_in e T i))))

-- The common ends of the pairs, and the first ends of the edges that are left, meet every cycle.
use Rattle.std.proofs.Common.{◌≡◌, ℕ, ◌+◌, ◌<◌, ◌≤◌, List, ◌++◌, length, arith}
use Rattle.std.proofs.lemmas.List.{length-append, length-map}
use Rattle.std.proofs.Math.Decide.{ℕ_discrete}
use Rattle.vector_spaces.proofs.Distinct.{distinct_at_most, increasing_distinct}
use Rattle.edge_lists.specs.Connections.{first_ends, one_component}
use Rattle.edge_lists.specs.EdgeNumbers.{edge_numbers}
use Rattle.edge_lists.specs.EdgePairs.{flat}
use Rattle.edge_lists.specs.Occurrences.{count}
use Rattle.edge_lists.proofs.Connections.{component_number_connected, forest_components}
use Rattle.edge_lists.proofs.EdgePairs.{length-flat}
use Rattle.edge_lists.proofs.Occurrences.{count-append, count-map, count_of_in, in_of_count}
use Rattle.edge_lists.proofs.SameEdges.{forest_part, same_length}
use Rattle.graph_theory.specs.Walks.{edge_at}
use Rattle.feedback_theory.specs.FeedbackSets.{LeavesForest, outside}
use Rattle.feedback_theory.proofs.Cycles.{feedback_of_forest}
use Rattle.feedback_theory.proofs.Outside.{outside_from, outside_single}
use Rattle.genus_front.specs.EdgeParts.{AreParts}
use Rattle.genus_front.proofs.EdgeParts.{together, tree}
use Rattle.cubic_front.specs.CommonEnds.{AreCommonEnds, AreInOrder}
use Rattle.cubic_front.specs.FeedbackVertexSets.{IsFeedbackVertexSet}

module _ (E : List (ℕ × ℕ)) (n : ℕ) (Q : List (ℕ × ℕ)) (T rest : List ℕ) (A : AreParts E n (flat Q) T rest) (C X : List ℕ)
    (K : AreCommonEnds (edge_at E) Q C) (O : AreInOrder n (C ++ first_ends (edge_at E) rest) X) where
  abbrev ends : ℕ → ℕ × ℕ
  ends = edge_at E

  abbrev all : List ℕ
  all = edge_numbers E

  split : (v : ℕ) → count v (C ++ first_ends ends rest) ≡ count v C + count v (first_ends ends rest)
  split v = count-append v C (first_ends ends rest)

  -- a vertex outside X has no mark
  unmarked : (v : ℕ) → v < n → count v X ≡ 0 → count v (C ++ first_ends ends rest) ≡ 0
  unmarked v l z = go (ℕ_discrete (count v (C ++ first_ends ends rest)) 0)
    where
      go : Dec (count v (C ++ first_ends ends rest) ≡ 0) → count v (C ++ first_ends ends rest) ≡ 0
      go (yes q) = q
      go (no k) = absurd (omega (arith, z, (O.same v).1 (l, omega (arith, k))))

  in_tree : (c : ℕ) → 1 ≤ count c (outside ends all X) → 1 ≤ count c T
  in_tree c i = go (outside_from ends all X c i) (ℕ_discrete (count c (flat Q)) 0) (ℕ_discrete (count c rest) 0)
    where
      go : (count (ends c).0 X + count (ends c).1 X ≡ 0) × (1 ≤ count c all) → Dec (count c (flat Q) ≡ 0) → Dec (count c rest ≡ 0)
          → 1 ≤ count c T
      go (z, h) (yes p) (yes r) = omega (arith, together E n (flat Q) T rest A c, h, p, r)
      go (z, h) (no p) d = let b = A.graph.below c h in
          absurd (omega (
            arith,
            K.covers c (omega (arith, p)),
            split (ends c).0,
            split (ends c).1,
            unmarked (ends c).0 b.0 (omega (arith, z)),
            unmarked (ends c).1 b.1 (omega (arith, z)),
          ))
      go (z, h) (yes p) (no r) = let b = A.graph.below c h in
          absurd (omega (
            arith,
            count-map (λ e. (ends e).0) rest c (omega (arith, r)),
            split (ends c).0,
            unmarked (ends c).0 b.0 (omega (arith, z)),
          ))

  pub leaves_forest : LeavesForest ends all X
  leaves_forest = forest_part ends T (outside ends all X) (λ c. omega (arith, together E n (flat Q) T rest A c, A.graph.single c))
      (outside_single ends all X A.graph.single) in_tree
      A.forest.forest

  pub is_feedback : IsFeedbackVertexSet n E X
  is_feedback = record { increasing = O.increasing; within = O.within; meets = feedback_of_forest ends all X leaves_forest }

  -- with the pairs no more than the cycle rank
  pub size : length X + length Q + n ≤ length all + one_component n
  size = omega (
    arith,
    distinct_at_most X (C ++ first_ends ends rest) (increasing_distinct X O.increasing)
        (λ v i. in_of_count v (C ++ first_ends ends rest) (((O.same v).0 (count_of_in v X i)).1)),
    length-append C (first_ends ends rest),
    K.long,
    length-map rest (λ e. (ends e).0),
    same_length (rest ++ (flat Q ++ T)) all (λ c. omega (
      arith,
      count-append c rest (flat Q ++ T),
      count-append c (flat Q) T,
      together E n (flat Q) T rest A c,
    )),
    length-append rest (flat Q ++ T),
    length-append (flat Q) T,
    length-flat Q,
    forest_components ends n T A.forest.forest (λ e i. A.graph.below e (omega (arith, i, together E n (flat Q) T rest A e))),
    component_number_connected ends n T (tree E n (flat Q) T rest A).connects,
  )

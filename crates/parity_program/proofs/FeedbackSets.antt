-- The graph without vertices has no cycle.
use Rattle.std.proofs.Common.{◌≡◌, ℕ, ◌<◌, List, [], ◌∷◌, All, subst, sym, arith}
use Rattle.cubic_front.specs.FeedbackVertexSets.{IsLeastFeedbackVertexSet}
use Rattle.edge_lists.proofs.EdgeNumbers.{numbers_below}
use Rattle.edge_lists.specs.EdgeNumbers.{edge_numbers}
use Rattle.feedback_theory.specs.FeedbackSets.{IsCycle}
use Rattle.graph_theory.specs.Walks.{edge_at}
use Rattle.vector_spaces.proofs.Members.{In-all, In-get_or, all-In}

module _ (E : List (ℕ × ℕ)) (within : All (λ (e : ℕ × ℕ). (e.0 < 0) × (e.1 < 0)) E) where
  no_cycle : (p : ℕ) (vs : List ℕ) → IsCycle (edge_at E) (edge_numbers E) p vs → ⊥
  no_cycle p [] cycle = let long = cycle.three in absurd (omega (arith, long))
  no_cycle p (v ∷ vs) cycle =
      let first = cycle.walk.0 in
      let below = (In-all (λ (e : ℕ × ℕ). (e.0 < 0) × (e.1 < 0)) E within (edge_at E first.0) (In-get_or E first.0 (0, 0) (numbers_below E first.0 first.1))).0 in
      absurd (omega (arith, below))

  empty_is_least : IsLeastFeedbackVertexSet 0 E []
  empty_is_least = record {
    feedback = record {
      increasing = λ k l. absurd (omega (arith, l));
      within = all-In (λ v. v < 0) [] (λ v i. absurd i);
      meets = λ p vs cycle. absurd (no_cycle p vs cycle);
    };
    least = λ Y h. omega arith;
  }

-- so there the empty set is least
pub empty_is_least_without_vertices : (n : ℕ) (E : List (ℕ × ℕ)) (X : List ℕ) → n ≡ 0
    → All (λ (e : ℕ × ℕ). (e.0 < n) × (e.1 < n)) E → X ≡ [] → IsLeastFeedbackVertexSet n E X
empty_is_least_without_vertices n E X none within empty =
    subst (λ n. All (λ (e : ℕ × ℕ). (e.0 < n) × (e.1 < n)) E → IsLeastFeedbackVertexSet n E X) (sym none)
    (λ w. subst (IsLeastFeedbackVertexSet 0 E) (sym empty) (empty_is_least E w)) within

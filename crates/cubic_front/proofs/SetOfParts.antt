-- The vertices in order that the parts of the edges give: a feedback set, and how many they are.
use Rattle.std.proofs.Common.{◌≡◌, ℕ, ◌+◌, ◌/◌, ◌≤◌, List, ◌++◌, All, length, subst, arith}
use Rattle.std.proofs.lemmas.List.{length-map}
use Rattle.std.specs.Prelude.{slice_index_or}
use Rattle.graph_theory.specs.Walks.{edge_at}
use Rattle.edge_lists.specs.Connections.{AreBelow, IsConnected, first_ends}
use Rattle.edge_lists.specs.EdgeNumbers.{edge_numbers}
use Rattle.genus_front.specs.EdgeParts.{AreParts}
use Rattle.genus_front.specs.GenusProblems.{edges_of, pairs_at}
use Rattle.cubic_front.specs.CommonEnds.{AreCommonEnds, AreInOrder}
use Rattle.cubic_front.specs.CubicGraphs.{IsCubic}
use Rattle.cubic_front.specs.FeedbackVertexSets.{IsFeedbackVertexSet}
use Rattle.cubic_front.proofs.FeedbackOfParts.{is_feedback, size}
use Rattle.cubic_front.proofs.FeedbackVertices.{number_most}

module _ (E : List (ℕ × ℕ)) (n : ℕ) (one : 1 ≤ n) (B : All (AreBelow n) E) (C : IsConnected (edge_at E) n (edge_numbers E))
    (K : IsCubic n E) (P : List (ℕ × ℕ)) (M T rest : List ℕ) (A : AreParts E n (edges_of P M) T rest) (W Z : List ℕ)
    (D : AreCommonEnds (edge_at E) (pairs_at P M) W) (q : Z ≡ W ++ first_ends (edge_at E) rest) (m : ℕ) (r : m ≡ n) where
  order : (X : List ℕ) → AreInOrder m Z X → AreInOrder n (W ++ first_ends (edge_at E) rest) X
  order X O = subst (λ t. AreInOrder t (W ++ first_ends (edge_at E) rest) X) r (subst (λ t. AreInOrder m t X) q O)

  pub made_feedback : (X : List ℕ) → AreInOrder m Z X → IsFeedbackVertexSet n E X
  made_feedback X O = is_feedback E n (pairs_at P M) T rest A W X D (order X O)

  pub made_small : (X : List ℕ) → AreInOrder m Z X → length X + length M ≤ n / 2 + 1
  made_small X O = number_most n E one B C K (length X) (length M) (omega (
    arith,
    size E n (pairs_at P M) T rest A W X D (order X O),
    length-map M (λ i. slice_index_or P i (0, 0)),
  ))

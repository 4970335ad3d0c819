-- Two vectors that a set misses together, in the other order.
use Rattle.std.proofs.Common.{ℕ, List, [], ◌∷◌}
use Rattle.std.proofs.lemmas.List.Elements.{All-nil, All-cons}
use Rattle.linear_algebra.specs.Scalars.{Scalars, IsField}
use Rattle.linear_algebra.specs.Vectors.{IsVector, AreVectors}
use Rattle.linear_algebra.proofs.Coordinates.{tuple, space}
use Rattle.matching_state.specs.Missing.{Misses}
use Rattle.matching_state.proofs.Ties.{misses_from, misses_to}
use Rattle.parity_lines.proofs.Border.{tuples_at}
use Rattle.parity_lines.specs.LineSets.{IsIndependentSet}
use Rattle.parity_lines.specs.Problems.{ParityProblem, IsProblem}
use Rattle.parity_theory.proofs.Widths.{misses_turned}

module _ (S : Scalars) (F : IsField S) (p : ParityProblem) (P : IsProblem S p) where
  pair : (a b : List ℕ) → IsVector S p.dimension a → IsVector S p.dimension b → AreVectors S p.dimension (a ∷ b ∷ [])
  pair a b v w =
      All-cons (IsVector S p.dimension) a (b ∷ []) v (All-cons (IsVector S p.dimension) b [] w (All-nil (IsVector S p.dimension)))

  pub missed_turned : (L a b : List ℕ) → IsIndependentSet S p L → IsVector S p.dimension a → IsVector S p.dimension b →
      Misses S p L (a ∷ b ∷ []) → Misses S p L (b ∷ a ∷ [])
  missed_turned L a b i v w m = misses_from S F p P L (b ∷ a ∷ []) i.line_set.within (pair b a w v)
      (misses_turned (space S F p.dimension) (tuples_at S F p) L (tuple S F p.dimension a) (tuple S F p.dimension b)
      (misses_to S F p P L (a ∷ b ∷ []) i.line_set.within (pair a b v w) m))

-- Missing is transitive: what a set misses together is shared out over another that has settled toward it.
use Rattle.std.proofs.Common.{◌≡◌, ℕ, ◌⊎◌, inl, inr, List, [], ◌∷◌, length, ◌∙◌}
use Rattle.std.proofs.lemmas.List.Elements.{All-nil, All-cons, All-head, All-tail}
use Rattle.linear_algebra.specs.Scalars.{Scalars, IsField}
use Rattle.linear_algebra.specs.Vectors.{IsVector, AreVectors}
use Rattle.linear_algebra.proofs.Coordinates.{tuple, space}
use Rattle.exchanges.proofs.ReachedSets.{kept_by_exchanges}
use Rattle.exchanges.proofs.SettledSets.{settled_at_set}
use Rattle.exchanges.specs.Exchanges.{IsReached, IsSettled, StillMisses}
use Rattle.matching_state.specs.Missing.{Misses}
use Rattle.matching_state.proofs.Ties.{misses_to, misses_from}
use Rattle.parity_lines.proofs.Border.{tuples_at}
use Rattle.parity_lines.specs.LineSets.{IsIndependentSet}
use Rattle.parity_lines.specs.Problems.{ParityProblem, IsProblem}
use Rattle.parity_theory.proofs.Transitivity.{transitivity_of_missing}

module _ (S : Scalars) (F : IsField S) (p : ParityProblem) (P : IsProblem S p) (M N L q u w : List ℕ) (i : IsIndependentSet S p M)
    (j : IsIndependentSet S p N) (same : length M ≡ length N) (v : AreVectors S p.dimension (q ∷ u ∷ w ∷ []))
    (m : Misses S p M (q ∷ [])) (n : Misses S p N (u ∷ w ∷ [])) (r : IsReached S p (q ∷ []) N M L) (s : IsSettled S p (q ∷ []) N L) where
  pair : (x y : List ℕ) → IsVector S p.dimension x → IsVector S p.dimension y → AreVectors S p.dimension (x ∷ y ∷ [])
  pair x y a b = All-cons (IsVector S p.dimension) x (y ∷ []) a
      (All-cons (IsVector S p.dimension) y [] b (All-nil (IsVector S p.dimension)))

  first : IsVector S p.dimension q
  first = All-head (IsVector S p.dimension) q (u ∷ w ∷ []) v

  others : AreVectors S p.dimension (u ∷ w ∷ [])
  others = All-tail (IsVector S p.dimension) q (u ∷ w ∷ []) v

  second : IsVector S p.dimension u
  second = All-head (IsVector S p.dimension) u (w ∷ []) others

  third : IsVector S p.dimension w
  third = All-head (IsVector S p.dimension) w [] (All-tail (IsVector S p.dimension) u (w ∷ []) others)

  alone : AreVectors S p.dimension (q ∷ [])
  alone = All-cons (IsVector S p.dimension) q [] first (All-nil (IsVector S p.dimension))

  reached : StillMisses S p (q ∷ []) M L
  reached = kept_by_exchanges S F p P (q ∷ []) N j.line_set.within alone M L i m r

  pub shared_out : Misses S p L (q ∷ u ∷ []) ⊎ Misses S p L (q ∷ w ∷ [])
  shared_out =
      let within = reached.independent.line_set.within in
      elim (transitivity_of_missing (space S F p.dimension) (tuples_at S F p) L N (tuple S F p.dimension u) (tuple S F p.dimension q)
      (tuple S F p.dimension w) (reached.as_long ∙ same)
      (misses_to S F p P L (q ∷ []) within alone reached.missed) (misses_to S F p P N (u ∷ w ∷ []) j.line_set.within others n)
      (settled_at_set S F p P L reached.independent (q ∷ []) alone reached.missed N j.line_set.within s j)) [
        | inl a ↦ inl (misses_from S F p P L (q ∷ u ∷ []) within (pair q u first second) a)
        | inr b ↦ inr (misses_from S F p P L (q ∷ w ∷ []) within (pair q w first third) b)
      ]

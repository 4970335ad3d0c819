-- Sets that miss a vector together with one of two, and the set that misses both of two vectors.
use Rattle.std.specs.Prelude.{ℕ, suc, List, [], ◌∷◌}
use Rattle.linear_algebra.specs.Scalars.{Scalars}
use Rattle.matching_state.specs.Missing.{Misses}
use Rattle.classes.specs.Ends.{IsSetOf}
use Rattle.classes.specs.declared.crossing.Crossing.{Crossing}
use Rattle.classes.specs.declared.crossing.Crossing.TheVariants.{Larger, First, Second, Both}
use Rattle.parity_lines.specs.Problems.{ParityProblem}

-- a longer set; or L, which misses o and a; or u and b; or o and u
abbrev pub TellsCrossing : Scalars → ParityProblem → ℕ → List ℕ → List ℕ → List ℕ → List ℕ → Crossing → Type 0
TellsCrossing S p k o a u b (Larger L) = IsSetOf S p (suc k) L
TellsCrossing S p k o a u b (First L) = IsSetOf S p k L × Misses S p L (o ∷ a ∷ [])
TellsCrossing S p k o a u b (Second L) = IsSetOf S p k L × Misses S p L (u ∷ b ∷ [])
TellsCrossing S p k o a u b (Both L) = IsSetOf S p k L × Misses S p L (o ∷ u ∷ [])

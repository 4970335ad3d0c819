-- How a set that misses a vector shares out what another set misses together.
use Rattle.std.specs.Prelude.{ℕ, suc, List, [], ◌∷◌}
use Rattle.linear_algebra.specs.Scalars.{Scalars}
use Rattle.linear_algebra.specs.Vectors.{IsVector}
use Rattle.matching_state.specs.Missing.{Misses}
use Rattle.classes.specs.Ends.{IsSetOf}
use Rattle.classes.specs.declared.transit.Shared.{Shared}
use Rattle.classes.specs.declared.transit.Shared.TheVariants.{Larger, First, Second}
use Rattle.parity_lines.specs.Problems.{ParityProblem}

-- a longer set; or L, which misses q with a; or L, which misses q with each vector that N misses with a
abbrev pub TellsShared : Scalars → ParityProblem → ℕ → List ℕ → List ℕ → List ℕ → Shared → Type 0
TellsShared S p k q N a (Larger L) = IsSetOf S p (suc k) L
TellsShared S p k q N a (First L) = IsSetOf S p k L × Misses S p L (q ∷ a ∷ [])
TellsShared S p k q N a (Second L) = IsSetOf S p k L × Misses S p L (q ∷ []) ×
    ((b : List ℕ) → IsVector S p.dimension b → Misses S p N (a ∷ b ∷ []) → Misses S p L (q ∷ b ∷ []))

-- Vectors of lines that aren't zero or are missed, members that miss a vector, and members that separate two lines.
use Rattle.std.specs.Prelude.{◌≡◌, ◌≢◌, ◌⊎◌, ℕ, ◌<◌, List, [], ◌∷◌, true, false, length, slice_index_or}
use Rattle.families.specs.Families.{SetFamily}
use Rattle.linear_algebra.specs.Scalars.{Scalars, IsField}
use Rattle.linear_algebra.specs.Vectors.{zero_vector}
use Rattle.matching_state.specs.Missing.{Misses}
use Rattle.parity_lines.specs.Problems.{ParityProblem, line_at}
use Rattle.classes.specs.Circuits.{IsWideOnPair}
use Rattle.classes.specs.Tables.{Separators, akin_at, live_at}

-- v is one of the two vectors of the line l
abbrev pub IsOfLine : ParityProblem → ℕ → List ℕ → Type 0
IsOfLine p l v = (v ≡ (line_at p l).0) ⊎ (v ≡ (line_at p l).1)

-- and it isn't zero
pub record IsNonzeroOf (S : Scalars) (p : ParityProblem) (l : ℕ) (v : List ℕ) : Type 0 where
  pub of_line : IsOfLine p l v
  pub not_zero : v ≢ zero_vector S p.dimension

-- and the set M misses it
pub record IsMissedOf (S : Scalars) (p : ParityProblem) (M : List ℕ) (l : ℕ) (v : List ℕ) : Type 0 where
  pub of_line : IsOfLine p l v
  pub missed : Misses S p M (v ∷ [])

-- the set at m misses v
pub record IsMissing (S : Scalars) (f : SetFamily) (v : List ℕ) (m : ℕ) : Type 0 where
  pub within : m < length f.sets
  pub missed : Misses S f.problem (slice_index_or f.sets m []) (v ∷ [])

-- both lines are live, and they aren't akin
pub record AreSeparated (t : Separators) (i j : ℕ) : Type 0 where
  pub first_live : live_at t i ≡ true
  pub second_live : live_at t j ≡ true
  pub not_akin : akin_at t i j ≡ false

-- the set at m separates the two lines
pub record IsSeparator (S : Scalars) (F : IsField S) (f : SetFamily) (i j m : ℕ) : Type 0 where
  pub within : m < length f.sets
  pub wide : IsWideOnPair S F f.problem (slice_index_or f.sets m []) i j

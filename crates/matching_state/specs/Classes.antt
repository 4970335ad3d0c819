-- Classes of vectors outside the span of a set of lines, by what their coordinates are beyond M's vectors.
use Rattle.std.specs.Prelude.{◌≡◌, ℕ, ◌*◌, ◌<◌, ◌≤◌, List, [], Vec, drop, length, map, slice_index_or}
use Rattle.std.specs.Global.{Global}
use Rattle.linear_algebra.specs.Scalars.{Scalars}
use Rattle.linear_algebra.specs.Spans.{Combines}
use Rattle.matching_state.specs.Chosen.{Chosen}
use Rattle.parity_lines.specs.Relations.{IsMonicMultiple}

-- what vectors hold
abbrev pub items_of : List (Vec ℕ Global) → List (List ℕ)
items_of vs = map (λ v. v.items) vs

-- no list stands twice
abbrev pub AreDifferent : List (List ℕ) → Type 0
AreDifferent xs = (i j : ℕ) → i < length xs → j < length xs → slice_index_or xs i [] ≡ slice_index_or xs j [] → i ≡ j

-- what had a number has it still
pub record KeepsNumbers (before after : List (List ℕ)) : Type 0 where
  pub longer : length before ≤ length after
  pub same : (i : ℕ) → i < length before → slice_index_or after i [] ≡ slice_index_or before i []

-- the coordinates of the vector beyond M's vectors, multiplied so that the first that isn't zero is one
pub record IsMonicTail (S : Scalars) (state : Chosen) (vector tail : List ℕ) : Type 0 where
  pub coordinates : List ℕ
  pub combines : Combines S state.problem.dimension state.basis coordinates vector
  pub monic : IsMonicMultiple S (drop (2 * length state.set) coordinates) tail

-- How often positions stand in parts, counted up to two.
use Rattle.std.specs.Prelude.{◌≡◌, ◌≢◌, ℕ, ◌<◌, ◌==◌, List, cond, length, slice_index}
use Rattle.std.specs.List.{list_any}

-- one where the position stands in the part
abbrev pub once_in : List ℕ → ℕ → ℕ
once_in part m = cond (list_any (λ l. l == m) part) 1 0

-- m is the least index at which the count stands
pub record IsFirstWith (counts : List ℕ) (count m : ℕ) : Type 0 where
  pub within : m < length counts
  pub holds : slice_index counts m ≡ count
  pub none_before : (k : ℕ) → k < m → slice_index counts k ≢ count

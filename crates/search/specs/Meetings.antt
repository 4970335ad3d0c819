-- Vectors of a span, by their coordinates over a set, two a line.
use Rattle.std.specs.Prelude.{◌≡◌, ℕ, ◌*◌, ◌+◌, ◌<◌, List, All, length}
use Rattle.matching_state.specs.Chosen.{Chosen}

-- each row has two coordinates for each line
abbrev pub ArePairs : ℕ → List (List ℕ) → Type 0
ArePairs lines rows = All (λ row. length row ≡ 2 * lines) rows

-- the index is that of a pair
abbrev pub IsPairIndex : ℕ → ℕ → Type 0
IsPairIndex i width = 2 * i + 1 < width

-- a meeting over so many lines is over the set of the state
abbrev pub IsOver : Chosen → ℕ → Type 0
IsOver state lines = lines ≡ length state.set

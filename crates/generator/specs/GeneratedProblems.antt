-- The problem of a number: which bit of which answer each coordinate of each line is.
use Rattle.std.specs.Prelude.{◌≡◌, ℕ, ◌+◌, ◌*◌, ◌/◌, ◌%◌, ◌^◌, ◌<◌, ◌≤◌, ◌⊎◌, List, [], length, slice_index, slice_index_or}
use Rattle.generator.specs.Sequence.{answer}
use Rattle.parity_lines.specs.Problems.{ParityProblem}

-- the bit of x at a position, the lowest being at 0
abbrev pub bit : ℕ → ℕ → ℕ
bit x position = (x / 2 ^ position) % 2

-- v has 60 coordinates: the lowest four bits of x in the hub, the next seven in the block b, and zero elsewhere
pub record IsBlockVector (b x : ℕ) (v : List ℕ) : Type 0 where
  pub long : length v ≡ 60
  pub hub : (j : ℕ) → j < 4 → slice_index v j ≡ bit x j
  pub block : (j : ℕ) → 4 ≤ j → j < 11 → slice_index v (7 * b + j) ≡ bit x j
  pub elsewhere : (c : ℕ) → 4 ≤ c → (c < 7 * b + 4) ⊎ (7 * b + 11 ≤ c) → slice_index v c ≡ 0

-- k lines, that at position i of block i mod 8: its first vector by answer 2 i, its second by the following one
pub record HasGeneratedLines (n k : ℕ) (lines : List (List ℕ × List ℕ)) : Type 0 where
  pub count : length lines ≡ k
  pub first : (i : ℕ) → i < k → IsBlockVector (i % 8) (answer n (2 * i)) (slice_index_or lines i ([], [])).0
  pub second : (i : ℕ) → i < k → IsBlockVector (i % 8) (answer n (2 * i + 1)) (slice_index_or lines i ([], [])).1

-- the problem of n: 60 coordinates, and 150 lines
pub record IsGeneratedProblem (n : ℕ) (p : ParityProblem) : Type 0 where
  pub dimension : p.dimension ≡ 60
  pub lines : HasGeneratedLines n 150 p.lines

-- Lists of words, as they are added and tested a few at a time.
use Rattle.std.specs.Prelude.{◌≡◌, ℕ, ◌<◌, ◌≤◌, List, length, slice_index, bit_xor}

-- each of the first m words of `new` is the sum of those of `old` and `source`, bit by bit, and the others are those of `old`
pub record AreAdded (m : ℕ) (old source new : List ℕ) : Type 0 where
  pub count : length new ≡ length old
  pub front : (k : ℕ) → k < m → slice_index new k ≡ bit_xor (slice_index old k) (slice_index source k)
  pub back : (k : ℕ) → m ≤ k → slice_index new k ≡ slice_index old k

-- the first m words are zero
abbrev pub AreZero : ℕ → List ℕ → Type 0
AreZero m words = (k : ℕ) → k < m → slice_index words k ≡ 0

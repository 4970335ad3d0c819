-- Vectors over two elements, packed into words of 64 bits.
use Rattle.std.specs.Prelude.{◌≡◌, ℕ, ◌+◌, ◌*◌, ◌/◌, ◌%◌, ◌<◌, ◌≤◌, ◌↔◌, List, map, length, slice_index}
use Rattle.std.specs.Int.{bit_at}
use Rattle.std.specs.List.{range_with_len}

-- element i of the words: bit i % 64 of word i / 64, the lowest being bit 0
abbrev pub element : List ℕ → ℕ → ℕ
element words i = bit_at (slice_index words (i / 64)) (i % 64)

-- the first n elements
abbrev pub elements : List ℕ → ℕ → List ℕ
elements words n = map (element words) (range_with_len 0 n)

-- how many words n elements need
abbrev pub word_count : ℕ → ℕ
word_count n = (n + 63) / 64

-- the words are as many as n elements need, and what stands behind the elements is zero
pub record AreWords (words : List ℕ) (n : ℕ) : Type 0 where
  pub count : length words ≡ word_count n
  pub behind : (i : ℕ) → n ≤ i → element words i ≡ 0

-- the words hold v: they are as many as needed, and bit j of word w is one exactly where element 64 w + j of v exists and is one
pub record ArePacked (v words : List ℕ) : Type 0 where
  pub count : length words ≡ word_count (length v)
  pub bits : (w j : ℕ) → w < length words → j < 64 →
      (bit_at (slice_index words w) j ≡ 1) ↔ ((64 * w + j < length v) × (slice_index v (64 * w + j) ≡ 1))

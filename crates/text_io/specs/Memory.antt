-- What contracts see of a memory source and of a memory sink.
use Rattle.std.specs.Prelude.{ℕ, ◌≤◌, List}

-- The bytes still to come; the most that one call gives; the numbers of the calls that fail; and how many calls were made, how many of them failed, and how many bytes were given.
pub record MemorySourceState : Type 0 where
  pub left : List ℕ
  pub most : ℕ
  pub fails : List ℕ
  pub calls : ℕ
  pub faults : ℕ
  pub given : ℕ

-- The bytes written; how many there is room for; the most that one call takes; the numbers of the calls that fail; and how many calls were made, and how many of them failed.
pub record MemorySinkState : Type 0 where
  pub written : List ℕ
  pub room : ℕ
  pub most : ℕ
  pub fails : List ℕ
  pub calls : ℕ
  pub faults : ℕ

-- One call takes at least a byte, the bytes held are no more than there is room for, and memory for all that room was taken.
pub record HasRoom (most room held capacity : ℕ) : Type 0 where
  pub some : 1 ≤ most
  pub within : held ≤ room
  pub taken : room ≤ capacity

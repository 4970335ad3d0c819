-- What contracts see of a source over a reader of std and of a sink over a writer of std.
use Rattle.std.specs.Prelude.{ℕ}

-- the reader, how many calls failed, and how many bytes were given
pub record StdSourceState (R : Type 0) : Type 0 where
  pub reader : R
  pub faults : ℕ
  pub given : ℕ

-- the writer, and how many calls failed
pub record StdSinkState (W : Type 0) : Type 0 where
  pub writer : W
  pub faults : ℕ

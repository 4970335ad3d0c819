-- Bytes that a source or a sink may tell.
use Rattle.std.specs.Prelude.{◌≡◌, ℕ, List, take, length, ◌<◌, Option, is_some}
use Rattle.std.specs.Io.KnownBytes.{Appends, Consumes}

-- the bytes were told and still are, or never were
abbrev pub StaysTold : Option (List ℕ) → Option (List ℕ) → Type 0
StaysTold old new = is_some new ≡ is_some old

-- told bytes have lost some front, maybe an empty one
abbrev pub LosesFront : Option (List ℕ) → Option (List ℕ) → Type 0
LosesFront old new = (front : List ℕ) × Consumes old new front

-- told bytes are followed by some front of these bytes, and not by all of them
abbrev pub AppendsProperPrefix : Option (List ℕ) → Option (List ℕ) → List ℕ → Type 0
AppendsProperPrefix old new bytes = (n : ℕ) × (n < length bytes) × Appends old new (take n bytes)

-- The terminals of a list of classes, each vertex in one class or none.
use Rattle.std.specs.Prelude.{ℕ, List, Bool, Option, None, Some, is_some, slice_index_or}

-- v is in a class
abbrev pub is_terminal : List (Option ℕ) → ℕ → Bool
is_terminal classes v = is_some (slice_index_or classes v None)

-- the number of a class, 0 of none
abbrev pub number_of : Option ℕ → ℕ
number_of None = 0
number_of (Some c) = c

-- the class of a terminal v
abbrev pub class_of : List (Option ℕ) → ℕ → ℕ
class_of classes v = number_of (slice_index_or classes v None)

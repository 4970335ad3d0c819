-- The numbers of the edges of a list.
use Rattle.std.specs.Prelude.{ℕ, List, length}
use Rattle.std.specs.List.{range_with_len}

abbrev pub edge_numbers : List (ℕ × ℕ) → List ℕ
edge_numbers E = range_with_len 0 (length E)

-- Lists of the labels of vertices.
use Rattle.std.specs.Prelude.{ℕ, List, [], ◌∷◌, map, nat_eq, slice_index, if◌then◌else◌}
use Rattle.std.specs.List.{range_with_len}
use Rattle.graph_theory.specs.Labels.{merged, label}

-- the labels at the ends of the edge are joined
abbrev pub joined : List ℕ → ℕ × ℕ → List ℕ
joined ls e = map (merged (slice_index ls e.0) (slice_index ls e.1)) ls

-- the edge i, where the labels at its ends e differ
abbrev pub where_apart : List ℕ → ℕ × ℕ → ℕ → List ℕ
where_apart ls e i = if nat_eq (slice_index ls e.0) (slice_index ls e.1) then [] else i ∷ []

-- the labels of the vertices below n
abbrev pub labels : List (ℕ × ℕ) → ℕ → List ℕ
labels E n = map (label E) (range_with_len 0 n)

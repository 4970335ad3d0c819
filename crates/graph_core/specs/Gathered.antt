-- Lists put together in the order of numbers: the triangles of a table of neighbours, and the pairs of edges.
use Rattle.std.specs.Prelude.{◌<◌, ◌↔◌, IsTrue, ℕ, zero, suc, List, [], ◌∷◌, ◌++◌, Bool, true, false, slice_set, ◌&&◌, ◌||◌, nat_eq, nat_lt, if◌then◌else◌, slice_index_or}
use Rattle.graph_theory.specs.Walks.{AreAdjacent}

-- the lists of the numbers below n, one after another
abbrev pub gathered : {X : Type 0} → (ℕ → List X) → ℕ → List X
gathered f zero = []
gathered f (suc k) = gathered f k ++ f k

-- whether the table has b in the row of a
abbrev pub is_marked : List (List Bool) → ℕ → ℕ → Bool
is_marked rows a b = slice_index_or (slice_index_or rows a []) b false

-- the row has its marks at the neighbours of v
abbrev pub IsRow : List (ℕ × ℕ) → ℕ → ℕ → List Bool → Type 0
IsRow E n v row = (b : ℕ) → b < n → IsTrue (slice_index_or row b false) ↔ AreAdjacent E v b

abbrev pub AreRows : List (ℕ × ℕ) → ℕ → List (List Bool) → Type 0
AreRows E n rows = (a b : ℕ) → a < n → b < n → IsTrue (is_marked rows a b) ↔ AreAdjacent E a b

-- with marks at the other ends of the edge, where it has the vertex as an end
abbrev pub marked_by : List Bool → ℕ × ℕ → ℕ → List Bool
marked_by marks e v =
    let once : List Bool = if nat_eq e.0 v then slice_set marks e.1 true else marks in
    if nat_eq e.1 v then slice_set once e.0 true else once

abbrev pub triangle_by : List (List Bool) → ℕ → ℕ → ℕ → List (List ℕ)
triangle_by rows a b c = if nat_lt b c && (is_marked rows a c && is_marked rows b c) then (a ∷ b ∷ c ∷ []) ∷ [] else []

abbrev pub triangles_on : List (List Bool) → ℕ → ℕ → ℕ → List (List ℕ)
triangles_on rows n a b = if nat_lt a b && is_marked rows a b then gathered (triangle_by rows a b) n else []

abbrev pub triangles_at : List (List Bool) → ℕ → ℕ → List (List ℕ)
triangles_at rows n a = gathered (triangles_on rows n a) n

abbrev pub meets : ℕ × ℕ → ℕ × ℕ → Bool
meets d e = (nat_eq d.0 e.0 || nat_eq d.0 e.1) || (nat_eq d.1 e.0 || nat_eq d.1 e.1)

abbrev pub pair_by : (ℕ → ℕ × ℕ) → ℕ → ℕ → List (ℕ × ℕ)
pair_by ends e f = if nat_lt e f && meets (ends e) (ends f) then (e, f) ∷ [] else []

abbrev pub pairs_at : (ℕ → ℕ × ℕ) → ℕ → ℕ → List (ℕ × ℕ)
pairs_at ends m e = gathered (pair_by ends e) m

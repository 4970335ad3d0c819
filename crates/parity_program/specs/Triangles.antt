-- How many triangles a graph has.
use Rattle.std.specs.Prelude.{ℕ, List, Bool, map, ◌&&◌, ◌||◌, nat_eq, nat_lt, count_by}
use Rattle.std.specs.List.{flat_map, list_any}
use Rattle.graph_theory.specs.Numbers.{numbers_from}

-- whether some edge has the ends p and q
abbrev pub are_adjacent : List (ℕ × ℕ) → ℕ → ℕ → Bool
are_adjacent E p q = list_any (λ e. (nat_eq e.0 p && nat_eq e.1 q) || (nat_eq e.0 q && nat_eq e.1 p)) E

-- whether the triple increases, and its vertices are pairwise adjacent
abbrev pub is_triangle : List (ℕ × ℕ) → ℕ × ℕ × ℕ → Bool
is_triangle E t = (nat_lt t.0 t.1 && nat_lt t.1 t.2) && (are_adjacent E t.0 t.1 && (are_adjacent E t.1 t.2 && are_adjacent E t.0 t.2))

-- all triples of numbers below n
abbrev pub triples_below : ℕ → List (ℕ × ℕ × ℕ)
triples_below n = flat_map (λ a. flat_map (λ b. map (λ c. (a, b, c)) (numbers_from 0 n)) (numbers_from 0 n)) (numbers_from 0 n)

-- how many of the triples of the n vertices are triangles
unfoldable pub triangle_count : ℕ → List (ℕ × ℕ) → ℕ
triangle_count n E = count_by (is_triangle E) (triples_below n)

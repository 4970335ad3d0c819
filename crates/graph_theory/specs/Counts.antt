-- Counts of vertices, which are the numbers below n, and of components.
use Rattle.std.specs.Prelude.{ℕ, zero, suc, ◌<◌, List, [], ◌∷◌, Bool, cond, nat_eq, ⊤}
use Rattle.graph_theory.specs.Labels.{label}

-- how many numbers below n pass the test
unfoldable pub count : ℕ → (ℕ → Bool) → ℕ
count zero P = zero
count (suc n) P = cond (P n) (suc (count n P)) (count n P)

-- w is the least vertex of its component
unfoldable pub is_root : List (ℕ × ℕ) → ℕ → Bool
is_root L w = nat_eq (label L w) w

-- how many components the n vertices have
unfoldable pub component_count : ℕ → List (ℕ × ℕ) → ℕ
component_count n L = count n (is_root L)

-- the ends of the edges are vertices
abbrev pub InRange : ℕ → List (ℕ × ℕ) → Type 0
InRange n [] = ⊤
InRange n (e ∷ L) = (e.0 < n) × (e.1 < n) × InRange n L

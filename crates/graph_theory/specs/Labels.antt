-- The label of a vertex: the least vertex connected with it. A list of edges grows at its head: the edge e put to L is e ∷ L.
use Rattle.std.specs.Prelude.{◌≡◌, ℕ, List, [], ◌∷◌, cond, nat_eq, max, min, ⊤}

-- the smaller and the larger of two labels become the smaller
unfoldable pub merged : ℕ → ℕ → ℕ → ℕ
merged a b x = cond (nat_eq x (max a b)) (min a b) x

abbrev pub relabel : (ℕ → ℕ) → ℕ × ℕ → ℕ → ℕ
relabel f e w = merged (f e.0) (f e.1) (f w)

unfoldable pub label : List (ℕ × ℕ) → ℕ → ℕ
label [] w = w
label (e ∷ L) w = relabel (label L) e w

-- the same as a walk from p to q (law: proofs/Walks)
abbrev pub Connected : List (ℕ × ℕ) → ℕ → ℕ → Type 0
Connected L p q = label L p ≡ label L q

-- each edge joins two components of those after it: the same as a forest (law: proofs/Walks)
abbrev pub GrownForest : List (ℕ × ℕ) → Type 0
GrownForest [] = ⊤
GrownForest (e ∷ L) = GrownForest L × ¬ (Connected L e.0 e.1)

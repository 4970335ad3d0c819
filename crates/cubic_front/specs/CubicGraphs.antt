-- Cubic simple graphs, by the vertices to which the edges of a vertex lead.
use Rattle.std.specs.Prelude.{◌≡◌, ◌<◌, ℕ, List, [], ◌∷◌, ◌++◌, cond, nat_eq, length}
use Rattle.vector_spaces.proofs.Distinct.{IsDistinct}

-- where an edge with these ends leads from v, if v is one of them
abbrev pub way_from : ℕ → ℕ × ℕ → List ℕ
way_from v p = cond (nat_eq p.0 v) (p.1 ∷ []) (cond (nat_eq p.1 v) (p.0 ∷ []) [])

-- where the edges with the end v lead, edge by edge; a loop leads to v
unfoldable pub ways_from : ℕ → List (ℕ × ℕ) → List ℕ
ways_from v [] = []
ways_from v (p ∷ E) = way_from v p ++ ways_from v E

-- v is the end of exactly three edges, and these lead to three different other vertices
pub record IsCubicAt (E : List (ℕ × ℕ)) (v : ℕ) : Type 0 where
  pub three : length (ways_from v E) ≡ 3
  pub different : IsDistinct (v ∷ ways_from v E)

-- every vertex below n is so
abbrev pub IsCubic : ℕ → List (ℕ × ℕ) → Type 0
IsCubic n E = (v : ℕ) → v < n → IsCubicAt E v

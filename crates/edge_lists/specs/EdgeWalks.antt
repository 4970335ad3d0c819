-- Walks along edges.
use Rattle.std.specs.Prelude.{◌≡◌, ◌⊎◌, ℕ, List, [], ◌∷◌}

-- the edges of p lead from u to v
abbrev pub EdgeWalk : (ℕ → ℕ × ℕ) → ℕ → List ℕ → ℕ → Type 0
EdgeWalk ends u [] v = u ≡ v
EdgeWalk ends u (e ∷ p) v = (((ends e).0 ≡ u) × EdgeWalk ends (ends e).1 p v) ⊎ (((ends e).1 ≡ u) × EdgeWalk ends (ends e).0 p v)

-- The only path between two vertices.
use Rattle.std.specs.Prelude.{◌≡◌, ℕ, List}
use Rattle.graph_theory.specs.Paths.{IsPath}

-- a path of edges of F from s to t, and no other is one
pub record IsOnlyPath (ends : ℕ → ℕ × ℕ) (F : List ℕ) (s t : ℕ) (es : List ℕ) : Type 0 where
  pub path : IsPath ends F s t es
  pub only : (fs : List ℕ) → IsPath ends F s t fs → fs ≡ es

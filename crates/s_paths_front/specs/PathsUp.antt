-- Paths to greater terminals.
use Rattle.std.specs.Prelude.{◌≡◌, ◌<◌, ℕ, List, ◌∷◌, Bool, true}
use Rattle.graph_theory.specs.Paths.{IsLinked, last_of}
use Rattle.vector_spaces.proofs.Distinct.{IsDistinct}

-- the list leads from s along edges, through different vertices, to a greater terminal
pub record IsPathUp (terminal : ℕ → Bool) (E : List (ℕ × ℕ)) (s : ℕ) (vs : List ℕ) : Type 0 where
  pub others : List ℕ
  pub vertices : vs ≡ s ∷ others
  pub linked : IsLinked E s others
  pub distinct : IsDistinct (s ∷ others)
  pub greater : s < last_of s others
  pub ends : terminal (last_of s others) ≡ true

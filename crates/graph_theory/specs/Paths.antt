-- Paths in graphs, by their vertices and by their edges.
use Rattle.std.specs.Prelude.{◌≡◌, ℕ, ◌⊎◌, List, [], ◌∷◌, ⊤}
use Rattle.vector_spaces.proofs.Members.{In}
use Rattle.vector_spaces.proofs.Distinct.{IsDistinct}
use Rattle.graph_theory.specs.Walks.{AreAdjacent}

-- neighbours in the list x, vs are adjacent
abbrev pub IsLinked : List (ℕ × ℕ) → ℕ → List ℕ → Type 0
IsLinked E x [] = ⊤
IsLinked E x (v ∷ vs) = AreAdjacent E x v × IsLinked E v vs

-- the last of x, vs
abbrev pub last_of : ℕ → List ℕ → ℕ
last_of x [] = x
last_of x (v ∷ vs) = last_of v vs

-- the edges with the numbers es lead from x through the vertices vs, one edge to each
abbrev pub LeadThrough : (ℕ → ℕ × ℕ) → ℕ → List ℕ → List ℕ → Type 0
LeadThrough ends x [] [] = ⊤
LeadThrough ends x [] (v ∷ vs) = ⊥
LeadThrough ends x (i ∷ es) [] = ⊥
LeadThrough ends x (i ∷ es) (v ∷ vs) = ((ends i ≡ (x, v)) ⊎ (ends i ≡ (v, x))) × LeadThrough ends v es vs

-- es are edges of F in the order of a path from s to t, whose vertices s, others are all different
pub record IsPath (ends : ℕ → ℕ × ℕ) (F : List ℕ) (s t : ℕ) (es : List ℕ) : Type 0 where
  pub others : List ℕ
  pub inside : (i : ℕ) → In i es → In i F
  pub leads : LeadThrough ends s es others
  pub last : last_of s others ≡ t
  pub distinct : IsDistinct (s ∷ others)

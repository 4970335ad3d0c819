-- Graphs as lists of edges, each the pair of its ends: adjacent vertices, walks, components and forests.
use Rattle.std.specs.Prelude.{◌≡◌, ℕ, ◌≤◌, ◌⊎◌, List, ◌∷◌, ◌++◌, slice_index_or}
use Rattle.vector_spaces.proofs.Members.{In}

-- the ends of the edge with the number i
abbrev pub edge_at : List (ℕ × ℕ) → ℕ → ℕ × ℕ
edge_at E i = slice_index_or E i (0, 0)

-- some edge has the ends p and q
abbrev pub AreAdjacent : List (ℕ × ℕ) → ℕ → ℕ → Type 0
AreAdjacent E p q = In (p, q) E ⊎ In (q, p) E

-- a walk along edges from p: to p itself, or one edge beyond a walk
pub data Walk (E : List (ℕ × ℕ)) (p : ℕ) : ℕ → Type 0 where
  stay : Walk E p p
  onward : (q r : ℕ) → Walk E p q → AreAdjacent E q r → Walk E p r

-- a is the least of the vertices to which a walk leads from p
pub record IsLeastConnected (E : List (ℕ × ℕ)) (p a : ℕ) : Type 0 where
  pub walk : Walk E p a
  pub least : (q : ℕ) → Walk E p q → a ≤ q

-- no edge joins two vertices between which the other edges make a walk
abbrev pub IsForest : List (ℕ × ℕ) → Type 0
IsForest E = (A : List (ℕ × ℕ)) (e : ℕ × ℕ) (B : List (ℕ × ℕ)) → E ≡ A ++ e ∷ B → ¬ (Walk (A ++ B) e.0 e.1)

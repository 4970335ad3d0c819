-- Graphs with names: what a graph is seen as.
use Rattle.std.specs.Prelude.{◌≡◌, ◌≢◌, ℕ, ◌<◌, List, [], ◌∷◌, ◌++◌, Option, None, All, length}
use Rattle.std.specs.List.{AllPairs}

-- the names of the vertices, the two ends of each edge, and the class of each vertex, or none
pub record NamedGraph : Type 0 where
  pub names : List (List ℕ)
  pub ends : List (ℕ × ℕ)
  pub classes : List (Option ℕ)

-- with a vertex of this name, in no class, put last
abbrev pub with_vertex : NamedGraph → List ℕ → NamedGraph
with_vertex g name = record g { names = g.names ++ name ∷ []; classes = g.classes ++ None ∷ [] }

-- names are different, ends are vertices, and each vertex has one class or none
pub record IsNamedGraph (g : NamedGraph) : Type 0 where
  pub different : AllPairs (λ x y. x ≢ y) g.names
  pub within : All (λ (e : ℕ × ℕ). (e.0 < length g.names) × (e.1 < length g.names)) g.ends
  pub classed : length g.classes ≡ length g.names

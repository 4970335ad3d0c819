-- The triangles of a list of edges as lists of vertices, and edges with a common end.
use Rattle.std.specs.Prelude.{◌≡◌, ℕ, ◌<◌, ◌⊎◌, List, map, length}
use Rattle.std.specs.List.{AllPairs}
use Rattle.vector_spaces.proofs.Members.{In}
use Rattle.graph_theory.specs.Walks.{edge_at}
use Rattle.graph_theory.specs.Matchings.{HasEnd}
use Rattle.graph_theory.specs.Cacti.{corners, AreTriangles}

-- the lists are the corners of all triangles, each once, in lexicographic order
pub record AreTriangleLists (E : List (ℕ × ℕ)) (lists : List (List ℕ)) : Type 0 where
  pub triples : List (ℕ × ℕ × ℕ)
  pub triangles : AreTriangles E triples
  pub corners_of : lists ≡ map corners triples

-- some vertex is an end of both edges
abbrev pub HaveCommonEnd : ℕ × ℕ → ℕ × ℕ → Type 0
HaveCommonEnd d e = (x : ℕ) × HasEnd d x × HasEnd e x

-- two edges with a common end, the smaller number first
abbrev pub IsAdjacentPair : List (ℕ × ℕ) → ℕ × ℕ → Type 0
IsAdjacentPair E p = (p.0 < p.1) × (p.1 < length E) × HaveCommonEnd (edge_at E p.0) (edge_at E p.1)

-- p is before q in lexicographic order
abbrev pub IsPairBefore : ℕ × ℕ → ℕ × ℕ → Type 0
IsPairBefore p q = (p.0 < q.0) ⊎ ((p.0 ≡ q.0) × (p.1 < q.1))

-- all pairs of edges with a common end, each once, in lexicographic order
pub record AreAdjacentPairs (E : List (ℕ × ℕ)) (pairs : List (ℕ × ℕ)) : Type 0 where
  pub each : (p : ℕ × ℕ) → In p pairs → IsAdjacentPair E p
  pub all : (p : ℕ × ℕ) → IsAdjacentPair E p → In p pairs
  pub ordered : AllPairs IsPairBefore pairs

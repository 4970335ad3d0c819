-- Triangles of a graph, and triangle cacti: sets of triangles in which no triangles make a cycle.
use Rattle.std.specs.Prelude.{◌≡◌, ℕ, ◌≤◌, ◌<◌, ◌⊎◌, List, [], ◌∷◌, map, length, slice_index_or, ⊤}
use Rattle.vector_spaces.proofs.Members.{In}
use Rattle.vector_spaces.proofs.Distinct.{IsDistinct}
use Rattle.graph_theory.specs.Walks.{AreAdjacent}

abbrev pub corners : ℕ × ℕ × ℕ → List ℕ
corners t = t.0 ∷ t.1 ∷ t.2 ∷ []

-- an increasing triple of vertices that are pairwise adjacent
pub record IsTriangle (E : List (ℕ × ℕ)) (t : ℕ × ℕ × ℕ) : Type 0 where
  pub rises : (t.0 < t.1) × (t.1 < t.2)
  pub sides : AreAdjacent E t.0 t.1 × AreAdjacent E t.1 t.2 × AreAdjacent E t.0 t.2

-- t is before u in lexicographic order
abbrev pub IsBefore : ℕ × ℕ × ℕ → ℕ × ℕ × ℕ → Type 0
IsBefore t u = (t.0 < u.0) ⊎ ((t.0 ≡ u.0) × ((t.1 < u.1) ⊎ ((t.1 ≡ u.1) × (t.2 < u.2))))

abbrev pub IsLexicographic : List (ℕ × ℕ × ℕ) → Type 0
IsLexicographic [] = ⊤
IsLexicographic (t ∷ Ts) = ((u : ℕ × ℕ × ℕ) → In u Ts → IsBefore t u) × IsLexicographic Ts

-- the triple with the number i
abbrev pub triple_at : List (ℕ × ℕ × ℕ) → ℕ → ℕ × ℕ × ℕ
triple_at Ts i = slice_index_or Ts i (0, 0, 0)

-- all triangles of the graph, each once, in order
pub record AreTriangles (E : List (ℕ × ℕ)) (Ts : List (ℕ × ℕ × ℕ)) : Type 0 where
  pub each : (t : ℕ × ℕ × ℕ) → In t Ts → IsTriangle E t
  pub all : (t : ℕ × ℕ × ℕ) → IsTriangle E t → In t Ts
  pub ordered : IsLexicographic Ts

-- the first triple of cs, or t where cs is empty
abbrev pub first_triple : List ((ℕ × ℕ × ℕ) × ℕ) → ℕ × ℕ × ℕ → ℕ × ℕ × ℕ
first_triple [] t = t
first_triple (c ∷ cs) t = c.0

-- each vertex is a corner of the triple before it and of the next one; after the last vertex comes t
abbrev pub ShareCorners : List ((ℕ × ℕ × ℕ) × ℕ) → ℕ × ℕ × ℕ → Type 0
ShareCorners [] t = ⊤
ShareCorners (c ∷ cs) t = In c.1 (corners c.0) × In c.1 (corners (first_triple cs t)) × ShareCorners cs t

-- two or more triples of the list and as many vertices, all different: each vertex is a corner of its triple and of the next one,
-- the last vertex of the last triple and of the first
pub record IsTriangleCycle (Ts : List (ℕ × ℕ × ℕ)) (c : (ℕ × ℕ × ℕ) × ℕ) (cs : List ((ℕ × ℕ × ℕ) × ℕ)) : Type 0 where
  pub two : 2 ≤ length (c ∷ cs)
  pub inside : (t : ℕ × ℕ × ℕ) → In t (map (λ k. k.0) (c ∷ cs)) → In t Ts
  pub triples : IsDistinct (map (λ k. k.0) (c ∷ cs))
  pub vertices : IsDistinct (map (λ k. k.1) (c ∷ cs))
  pub shared : ShareCorners (c ∷ cs) c.0

-- different triangles of the graph, of which none make a cycle
pub record IsCactus (E : List (ℕ × ℕ)) (Ts : List (ℕ × ℕ × ℕ)) : Type 0 where
  pub triangles : (t : ℕ × ℕ × ℕ) → In t Ts → IsTriangle E t
  pub distinct : IsDistinct Ts
  pub no_cycle : (c : (ℕ × ℕ × ℕ) × ℕ) (cs : List ((ℕ × ℕ × ℕ) × ℕ)) → ¬ (IsTriangleCycle Ts c cs)

-- no other cactus of the graph has more triangles
pub record IsLargestCactus (E : List (ℕ × ℕ)) (Ts : List (ℕ × ℕ × ℕ)) : Type 0 where
  pub cactus : IsCactus E Ts
  pub most : (Us : List (ℕ × ℕ × ℕ)) → IsCactus E Us → length Us ≤ length Ts

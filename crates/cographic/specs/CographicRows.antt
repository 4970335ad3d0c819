-- The cographic vectors of the edges of a graph, as lists of scalars.
use Rattle.std.specs.Prelude.{◌≡◌, ℕ, ◌<◌, ◌⊎◌, ⊤, List, [], ◌∷◌, length, map, slice_index_or}
use Rattle.vector_spaces.proofs.Members.{In}
use Rattle.linear_algebra.specs.Scalars.{Scalars}
use Rattle.field_core.specs.Matrix.{Matrix}
use Rattle.graph_theory.specs.Walks.{edge_at, IsForest, Walk}
use Rattle.graph_theory.specs.Paths.{IsPath}
use Rattle.graph_theory.specs.Greedy.{IsGreedyForest}
use Rattle.edge_lists.specs.EdgeNumbers.{edge_numbers}
use Rattle.edge_lists.specs.Occurrences.{without}

-- x is in the fundamental cycle of g: it is g itself, or on the path in the tree T between the ends of g
abbrev pub InCycle : (ℕ → ℕ × ℕ) → List ℕ → ℕ → ℕ → Type 0
InCycle ends T g x = (x ≡ g) ⊎ ((es : List ℕ) × IsPath ends T (ends g).0 (ends g).1 es × In x es)

-- a is one where x is in the fundamental cycle of g, and zero elsewhere
pub record IsEntry (S : Scalars) (ends : ℕ → ℕ × ℕ) (T : List ℕ) (g x a : ℕ) : Type 0 where
  pub inside : InCycle ends T g x → a ≡ S.one
  pub outside : ¬ (InCycle ends T g x) → a ≡ S.zero

-- v has the entry of x for each of the edges gs, in order
abbrev pub AreEntries : Scalars → (ℕ → ℕ × ℕ) → List ℕ → ℕ → List ℕ → List ℕ → Type 0
AreEntries S ends T x [] [] = ⊤
AreEntries S ends T x [] (a ∷ v) = ⊥
AreEntries S ends T x (g ∷ gs) [] = ⊥
AreEntries S ends T x (g ∷ gs) (a ∷ v) = IsEntry S ends T g x a × AreEntries S ends T x gs v

-- a vector for each edge of the graph, with an entry for each edge outside the spanning forest that is found edge by edge
pub record AreCographicRows (S : Scalars) (E : List (ℕ × ℕ)) (m : Matrix) : Type 0 where
  pub tree : List ℕ
  pub greedy : IsGreedyForest E tree
  pub forest : IsForest (map (edge_at E) tree)
  pub spanning : (p q : ℕ) → Walk E p q → Walk (map (edge_at E) tree) p q
  pub width : m.width ≡ length (without tree (edge_numbers E))
  pub count : length m.rows ≡ length E
  pub rows : (x : ℕ) → x < length E → AreEntries S (edge_at E) tree x (without tree (edge_numbers E)) (slice_index_or m.rows x [])

-- the vectors of the edges of a list
abbrev pub vectors_of : Matrix → List ℕ → List (List ℕ)
vectors_of m L = map (λ e. slice_index_or m.rows e []) L

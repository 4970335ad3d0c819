-- Edges put into a rotation system, and spanning trees of graphs.
use Rattle.std.specs.Prelude.{◌≡◌, ℕ, ◌+◌, List, Option, None, Some, cond, nat_eq, ◌&&◌, length}
use Rattle.edge_lists.specs.Connections.{AreForest, IsConnected}
use Rattle.edge_lists.specs.Occurrences.{count}
use Rattle.rotation_system.specs.RotationSystems.{RotationSystem, held}
use Rattle.rotation_system.specs.DartPlaces.{DartPut}

-- the place of the second dart of a loop with both darts at one place: directly after the first
abbrev pub second_place : ℕ × ℕ → Option ℕ → Option ℕ → ℕ → Option ℕ
second_place ends None None d = cond (nat_eq ends.0 ends.1) (Some d) None
second_place ends None (Some y) d = Some y
second_place ends (Some x) None d = None
second_place ends (Some x) (Some y) d = cond (nat_eq ends.0 ends.1 && nat_eq x y) (Some d) (Some y)

-- L' has the dart d and its reverse at the places p and q of the two ends
pub record ListsInserted (L : List (List ℕ)) (ends : ℕ × ℕ) (p q : Option ℕ) (d : ℕ) (L' : List (List ℕ)) : Type 0 where
  pub middle : List (List ℕ)
  pub first : DartPut L ends.0 p d middle
  pub second : DartPut middle ends.1 (second_place ends p q d) (d + 1) L'

-- r' has the vertices and ends of r, and holds the edges of K and those that r holds
pub record HoldsMore (r : RotationSystem) (K : List ℕ) (r' : RotationSystem) : Type 0 where
  pub ends : r'.ends ≡ r.ends
  pub vertices : length r'.lists ≡ length r.lists
  pub more : (e : ℕ) → count e (held r') ≡ count e K + count e (held r)

-- T is a forest of edges that connects all vertices
pub record IsSpanningTree (ends : ℕ → ℕ × ℕ) (V : ℕ) (T : List ℕ) : Type 0 where
  pub forest : AreForest ends T
  pub connects : IsConnected ends V T

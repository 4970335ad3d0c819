-- Rotation systems: what a rotation is seen as.
use Rattle.std.specs.Prelude.{ℕ, ◌<◌, ◌≤◌, ◌-◌, ◌^◌, ⊤, List, [], ◌∷◌, All, length, slice_index_or}
use Rattle.vector_spaces.proofs.Members.{In}
use Rattle.graph_theory.specs.Walks.{edge_at}
use Rattle.edge_lists.specs.Connections.{AreBelow, IsConnected}
use Rattle.edge_lists.specs.EdgeNumbers.{edge_numbers}
use Rattle.edge_lists.specs.Occurrences.{count_all, keep}
use Rattle.rotation_theory.specs.Darts.{dart}
use Rattle.rotation_theory.specs.Rotations.{IsRotation}

-- the ends of all edges, and for each vertex a cyclic list of darts
pub record RotationSystem : Type 0 where
  pub ends : List (ℕ × ℕ)
  pub lists : List (List ℕ)

-- the edges that have darts in the lists, in order
abbrev pub held : RotationSystem → List ℕ
held r = keep (λ e. 1 - count_all (dart e) r.lists) (edge_numbers r.ends)

abbrev pub darts_at : RotationSystem → ℕ → List ℕ
darts_at r v = slice_index_or r.lists v []

abbrev pub BeginsWithLeast : List ℕ → Type 0
BeginsWithLeast [] = ⊤
BeginsWithLeast (d ∷ w) = (x : ℕ) → In x w → d ≤ x

-- a rotation of the held edges, which connect all vertices; each list is written from its least dart on
pub record IsRotationSystem (r : RotationSystem) : Type 0 where
  pub few : length r.ends < 2 ^ 31
  pub vertices : length r.lists < 2 ^ 63
  pub below : All (AreBelow (length r.lists)) r.ends
  pub rotation : IsRotation (edge_at r.ends) (length r.lists) (held r) r.lists
  pub connected : IsConnected (edge_at r.ends) (length r.lists) (held r)
  pub least : All BeginsWithLeast r.lists

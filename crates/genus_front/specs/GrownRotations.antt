-- Rotations that grow by edges.
use Rattle.std.specs.Prelude.{◌≤◌, ℕ, List, length}
use Rattle.edge_lists.specs.Connections.{one_component}
use Rattle.rotation_theory.specs.Genus.{HasFaces, HasGenus}
use Rattle.rotation_system.specs.RotationSystems.{RotationSystem, held}
use Rattle.rotation_system.specs.InsertedEdges.{HoldsMore}

-- the genus of r is g
abbrev pub OfGenus : RotationSystem → ℕ → Type 0
OfGenus r g = HasGenus (length r.lists) (held r) r.lists g

-- one face, or none where there is no vertex
abbrev pub HasOneFace : RotationSystem → Type 0
HasOneFace r = HasFaces r.lists (one_component (length r.lists))

-- r' has the edges K beside those of r, one face and the genus g
pub record GrowsTo (r : RotationSystem) (K : List ℕ) (g : ℕ) (r' : RotationSystem) : Type 0 where
  pub more : HoldsMore r K r'
  pub faces : HasOneFace r'
  pub genus : OfGenus r' g

-- r' has the edges K beside those of r, and no smaller genus
pub record GrowsBy (r : RotationSystem) (K : List ℕ) (r' : RotationSystem) : Type 0 where
  pub more : HoldsMore r K r'
  pub genus : (g' : ℕ) → OfGenus r' g' → (g : ℕ) × OfGenus r g × (g ≤ g')

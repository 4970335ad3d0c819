-- Rotations of forests.
use Rattle.std.specs.Prelude.{◌≡◌, ℕ, List, length}
use Rattle.edge_lists.specs.Connections.{component_number}
use Rattle.rotation_theory.specs.Darts.{rev}
use Rattle.rotation_theory.specs.Rotations.{IsRotation}
use Rattle.rotation_theory.proofs.FaceWalks.{FaceWalks}

-- a rotation of T with a face for each component
pub record IsGrown (ends : ℕ → ℕ × ℕ) (V : ℕ) (T : List ℕ) (L : List (List ℕ)) : Type 0 where
  pub rotation : IsRotation ends V T L
  pub faces : List (List ℕ)
  pub walks : FaceWalks rev L faces
  pub number : length faces ≡ component_number ends V T

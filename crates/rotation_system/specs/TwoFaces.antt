-- Rotations with two faces.
use Rattle.std.specs.Prelude.{ℕ, ◌≤◌, List, [], ◌∷◌}
use Rattle.edge_lists.specs.Occurrences.{count}
use Rattle.rotation_theory.specs.Darts.{rev}
use Rattle.rotation_theory.proofs.FaceWalks.{FaceWalks}

-- there are two faces, one with d and one with c
pub record AreApart (L : List (List ℕ)) (d c : ℕ) : Type 0 where
  pub one : List ℕ
  pub other : List ℕ
  pub walks : FaceWalks rev L (one ∷ other ∷ [])
  pub first : 1 ≤ count d one
  pub second : 1 ≤ count c other

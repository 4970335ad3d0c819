-- Faces that are traced dart by dart, and the marks at their darts.
use Rattle.std.specs.Prelude.{◌≡◌, ℕ, ◌+◌, ◌<◌, ◌≤◌, ◌↔◌, IsTrue, List, [], ◌∷◌, ◌++◌, Bool, false, length, slice_index_or, if◌then◌else◌}
use Rattle.edge_lists.specs.Occurrences.{count, count_all}
use Rattle.rotation_theory.specs.CyclicLists.{empties}
use Rattle.rotation_theory.specs.Darts.{rev}
use Rattle.rotation_theory.proofs.FaceWalks.{FaceWalks}

abbrev pub is_marked : List Bool → ℕ → Bool
is_marked seen d = slice_index_or seen d false

-- how many have no mark
abbrev pub unmarked : List Bool → ℕ
unmarked [] = 0
unmarked (b ∷ seen) = (if b then 0 else 1) + unmarked seen

-- what is marked stays marked
abbrev pub KeepsMarks : List Bool → List Bool → Type 0
KeepsMarks seen seen' = (d : ℕ) → IsTrue (is_marked seen d) → IsTrue (is_marked seen' d)

-- n walks of darts are traced, and their darts alone are marked
pub record AreTraced (L : List (List ℕ)) (seen : List Bool) (n : ℕ) : Type 0 where
  pub traced : List (List ℕ)
  pub others : List (List ℕ)
  pub walks : FaceWalks rev L (traced ++ others)
  pub full : empties traced ≡ 0
  pub number : length traced ≡ n
  pub marks : (d : ℕ) → d < length seen → IsTrue (is_marked seen d) ↔ (1 ≤ count_all d traced)
  pub few : n + unmarked seen ≤ length seen

-- the answer says whether the walk with d has c as well
pub record AreOnOneFace (L : List (List ℕ)) (d c : ℕ) (answer : Bool) : Type 0 where
  pub walk : List ℕ
  pub others : List (List ℕ)
  pub walks : FaceWalks rev L (walk ∷ others)
  pub first : 1 ≤ count d walk
  pub second : IsTrue answer ↔ (1 ≤ count c walk)

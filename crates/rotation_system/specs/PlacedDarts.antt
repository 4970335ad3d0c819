-- How the code writes the lists with a dart more: in their order, or from that dart on.
use Rattle.std.specs.Prelude.{◌≡◌, ℕ, ◌+◌, ◌<◌, ◌⊎◌, List, [], ◌∷◌, ◌++◌, Option, None, Some, length, slice_index, slice_index_or, slice_set}
use Rattle.rotation_system.specs.InsertedEdges.{second_place}

-- i is the index after the place
abbrev pub IsAfter : List ℕ → Option ℕ → ℕ → Type 0
IsAfter w None i = i ≡ 0
IsAfter w (Some p) i = (j : ℕ) × (j < length w) × (slice_index w j ≡ p) × (i ≡ j + 1)

-- w' is w with x directly after the place
abbrev pub IsPut : Option ℕ → ℕ → List ℕ → List ℕ → Type 0
IsPut None x w w' = (w ≡ []) × (w' ≡ x ∷ [])
IsPut (Some p) x w w' = (u : List ℕ) × (v : List ℕ) × (w ≡ u ++ p ∷ v) × ((w' ≡ u ++ p ∷ x ∷ v) ⊎ (w' ≡ x ∷ v ++ (u ++ p ∷ [])))

-- L' has x in the list of v, directly after the place
pub record IsPutIn (L : List (List ℕ)) (v : ℕ) (place : Option ℕ) (x : ℕ) (L' : List (List ℕ)) : Type 0 where
  pub list : List ℕ
  pub vertex : v < length L
  pub put : IsPut place x (slice_index_or L v []) list
  pub after : L' ≡ slice_set L v list

-- L' has both darts at their places
pub record ArePut (L : List (List ℕ)) (ends : ℕ × ℕ) (p q : Option ℕ) (d : ℕ) (L' : List (List ℕ)) : Type 0 where
  pub middle : List (List ℕ)
  pub first : IsPutIn L ends.0 p d middle
  pub second : IsPutIn middle ends.1 (second_place ends p q d) (d + 1) L'

-- at some places
pub record ArePutSomewhere (L : List (List ℕ)) (ends : ℕ × ℕ) (d : ℕ) (L' : List (List ℕ)) : Type 0 where
  pub p : Option ℕ
  pub q : Option ℕ
  pub put : ArePut L ends p q d L'

-- Where a dart is put into a cyclic list.
use Rattle.std.specs.Prelude.{◌≡◌, ℕ, List, [], ◌∷◌, ◌++◌, Option, None, Some, length}
use Rattle.vector_spaces.proofs.Members.{In}

-- a place in the cyclic list w: after one of its darts; or none, where it has none
abbrev pub IsPlace : List ℕ → Option ℕ → Type 0
IsPlace w None = w ≡ []
IsPlace w (Some p) = In p w

-- the same cyclic list, written from another dart on
pub record AreTurned (w w' : List ℕ) : Type 0 where
  pub front : List ℕ
  pub back : List ℕ
  pub before : w ≡ front ++ back
  pub after : w' ≡ back ++ front

-- w' is w with x directly after the place
pub record PutAfter (p : ℕ) (x : ℕ) (w w' : List ℕ) : Type 0 where
  pub front : List ℕ
  pub back : List ℕ
  pub before : w ≡ front ++ p ∷ back
  pub after : AreTurned (front ++ p ∷ x ∷ back) w'

abbrev pub PutAt : Option ℕ → ℕ → List ℕ → List ℕ → Type 0
PutAt None x w w' = (w ≡ []) × (w' ≡ x ∷ [])
PutAt (Some p) x w w' = PutAfter p x w w'

-- L' has x in the list of v, at the place, and all other lists are those of L
pub record DartPut (L : List (List ℕ)) (v : ℕ) (place : Option ℕ) (x : ℕ) (L' : List (List ℕ)) : Type 0 where
  pub front : List (List ℕ)
  pub old : List ℕ
  pub new : List ℕ
  pub back : List (List ℕ)
  pub at : length front ≡ v
  pub before : L ≡ front ++ old ∷ back
  pub after : L' ≡ front ++ new ∷ back
  pub put : PutAt place x old new

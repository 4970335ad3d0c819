-- Vectors over the scalars S: lists of scalars.
use Rattle.std.specs.Prelude.{◌≡◌, ℕ, List, [], ◌∷◌, length, map, replicate, All}
use Rattle.linear_algebra.specs.Scalars.{Scalars, IsScalar}

-- v is a vector of length d
pub record IsVector (S : Scalars) (d : ℕ) (v : List ℕ) : Type 0 where
  pub length_is : length v ≡ d
  pub entries : All (IsScalar S) v

-- each of vs is a vector of length d
abbrev pub AreVectors : Scalars → ℕ → List (List ℕ) → Type 0
AreVectors S d vs = All (IsVector S d) vs

-- d zeros
abbrev pub zero_vector : Scalars → ℕ → List ℕ
zero_vector S d = replicate d S.zero

-- the sum, coordinate by coordinate
unfoldable pub vector_sum : Scalars → List ℕ → List ℕ → List ℕ
vector_sum S [] v = []
vector_sum S (a ∷ u) [] = []
vector_sum S (a ∷ u) (b ∷ v) = S.sum a b ∷ vector_sum S u v

-- c times v
abbrev pub multiple : Scalars → ℕ → List ℕ → List ℕ
multiple S c v = map (λ a. S.product c a) v

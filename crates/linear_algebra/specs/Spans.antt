-- Linear combinations, spans and independent lists of vectors of length d.
use Rattle.std.specs.Prelude.{◌≡◌, ℕ, List, [], ◌∷◌, length}
use Rattle.linear_algebra.specs.Scalars.{Scalars}
use Rattle.linear_algebra.specs.Vectors.{IsVector, zero_vector, vector_sum, multiple}

-- the first of cs times the first of vs, and so on, summed; the zero vector where there are none
unfoldable pub combination : Scalars → ℕ → List ℕ → List (List ℕ) → List ℕ
combination S d [] vs = zero_vector S d
combination S d (c ∷ cs) [] = zero_vector S d
combination S d (c ∷ cs) (v ∷ vs) = vector_sum S (multiple S c v) (combination S d cs vs)

-- cs are coefficients, one for each of vs, that combine vs to x
pub record Combines (S : Scalars) (d : ℕ) (vs : List (List ℕ)) (cs x : List ℕ) : Type 0 where
  pub one_each : IsVector S (length vs) cs
  pub gives : combination S d cs vs ≡ x

-- some coefficients combine vs to x
pub record InSpan (S : Scalars) (d : ℕ) (vs : List (List ℕ)) (x : List ℕ) : Type 0 where
  pub coefficients : List ℕ
  pub combine : Combines S d vs coefficients x

-- only zeros combine vs to the zero vector
abbrev pub IsIndependent : Scalars → ℕ → List (List ℕ) → Type 0
IsIndependent S d vs = (cs : List ℕ) → Combines S d vs cs (zero_vector S d) → cs ≡ zero_vector S (length vs)

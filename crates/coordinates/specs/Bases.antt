-- Bases of the vectors of length d, unit vectors, and what becomes of coordinates where a vector of a basis is replaced.
use Rattle.std.specs.Prelude.{◌≡◌, ℕ, List, length, map, slice_set, slice_index_or}
use Rattle.std.specs.List.{range_with_len}
use Rattle.linear_algebra.specs.Scalars.{Scalars}
use Rattle.linear_algebra.specs.Vectors.{IsVector, AreVectors, zero_vector, vector_sum, multiple}
use Rattle.linear_algebra.specs.Spans.{IsIndependent}

-- vs are d independent vectors of length d
pub record IsBasis (S : Scalars) (d : ℕ) (vs : List (List ℕ)) : Type 0 where
  pub vectors : AreVectors S d vs
  pub length_is : length vs ≡ d
  pub independent : IsIndependent S d vs

-- the vector of length d with one at place i and zeros elsewhere
abbrev pub unit_vector : Scalars → ℕ → ℕ → List ℕ
unit_vector S d i = slice_set (zero_vector S d) i S.one

-- the unit vectors of length d, in order
abbrev pub unit_vectors : Scalars → ℕ → List (List ℕ)
unit_vectors S d = map (unit_vector S d) (range_with_len 0 d)

-- ds is what the coordinates cs become where the vector with the coordinates ts comes in at place i:
-- ds with zero at i, and as many times ts as ds has at i, sum to cs
pub record IsPivoted (S : Scalars) (i : ℕ) (ts cs ds : List ℕ) : Type 0 where
  pub is_vector : IsVector S (length cs) ds
  pub gives : vector_sum S (slice_set ds i S.zero) (multiple S (slice_index_or ds i 0) ts) ≡ cs

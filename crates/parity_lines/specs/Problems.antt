-- Parity problems: lines, which are pairs of vectors, over the scalars S.
use Rattle.std.specs.Prelude.{ℕ, List, [], ◌∷◌, All, slice_index_or}
use Rattle.linear_algebra.specs.Scalars.{Scalars}
use Rattle.linear_algebra.specs.Vectors.{IsVector}

-- a dimension, and the lines, known by their positions from 0 on
pub record ParityProblem : Type 0 where
  pub dimension : ℕ
  pub lines : List (List ℕ × List ℕ)

-- each line is a pair of vectors of the dimension
abbrev pub IsProblem : Scalars → ParityProblem → Type 0
IsProblem S p = All (λ (line : List ℕ × List ℕ). IsVector S p.dimension line.0 × IsVector S p.dimension line.1) p.lines

-- the line at a position
abbrev pub line_at : ParityProblem → ℕ → List ℕ × List ℕ
line_at p m = slice_index_or p.lines m ([], [])

-- the vectors of the lines at these positions, two a line, in order
unfoldable pub vectors_at : ParityProblem → List ℕ → List (List ℕ)
vectors_at p [] = []
vectors_at p (m ∷ M) = (line_at p m).0 ∷ (line_at p m).1 ∷ vectors_at p M

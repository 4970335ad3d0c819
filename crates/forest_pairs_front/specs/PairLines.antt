-- The parity problems of pairs of edges: a line for each pair, with the vectors of its two edges.
use Rattle.std.specs.Prelude.{◌≡◌, ℕ, List, [], map, slice_index_or}
use Rattle.std.specs.List.{range_with_len}
use Rattle.cographic.specs.CographicRows.{AreCographicRows}
use Rattle.field_core.specs.Matrix.{Matrix}
use Rattle.graph_problems.specs.GraphLines.{unit_vector}
use Rattle.graph_theory.specs.Walks.{edge_at}
use Rattle.linear_algebra.specs.Scalars.{Scalars}
use Rattle.linear_algebra.specs.Vectors.{vector_sum}
use Rattle.pairs_theory.specs.PairsOfEdges.{edge_pair}
use Rattle.parity_lines.specs.Problems.{ParityProblem}
use Rattle.forest_pairs_front.specs.ListedPairs.{pair_count}

-- the line of pair i, by the vectors of edges
abbrev pub pair_line : (ℕ → List ℕ) → ℕ → List ℕ × List ℕ
pair_line vector i = (vector (edge_pair i).0, vector (edge_pair i).1)

-- the problem of the first k pairs
abbrev pub first_pairs : ℕ → (ℕ → List ℕ) → ℕ → ParityProblem
first_pairs d vector k = record { dimension = d; lines = map (pair_line vector) (range_with_len 0 k) }

-- the sum of the unit vectors of the two ends of an edge
abbrev pub end_sum : Scalars → ℕ → ℕ × ℕ → List ℕ
end_sum S n e = vector_sum S (unit_vector S n e.0) (unit_vector S n e.1)

abbrev pub edge_sum : Scalars → ℕ → List (ℕ × ℕ) → ℕ → List ℕ
edge_sum S n E e = end_sum S n (edge_at E e)

-- one coordinate for each of the n vertices, and the line of each pair, in order
abbrev pub forest_problem : Scalars → ℕ → List (ℕ × ℕ) → ParityProblem
forest_problem S n E = first_pairs n (edge_sum S n E) (pair_count E)

-- the line of each pair, in order, where an edge has its row
abbrev pub edge_row : Matrix → ℕ → List ℕ
edge_row m e = slice_index_or m.rows e []

abbrev pub row_problem : Matrix → List (ℕ × ℕ) → ParityProblem
row_problem m E = first_pairs m.width (edge_row m) (pair_count E)

-- p is the problem of the pairs where an edge has its cographic vector
pub record IsSpareProblem (S : Scalars) (E : List (ℕ × ℕ)) (p : ParityProblem) : Type 0 where
  pub rows : Matrix
  pub cographic : AreCographicRows S E rows
  pub problem : p ≡ row_problem rows E

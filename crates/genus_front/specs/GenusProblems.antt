-- The parity problem of the pairs of edges with a common end: each pair is the line of the cographic vectors of its two edges.
use Rattle.std.specs.Prelude.{◌≡◌, ℕ, List, [], map, slice_index_or}
use Rattle.linear_algebra.specs.Scalars.{Scalars}
use Rattle.field_core.specs.Matrix.{Matrix}
use Rattle.parity_lines.specs.Problems.{ParityProblem}
use Rattle.graph_core.specs.Adjacency.{AreAdjacentPairs}
use Rattle.edge_lists.specs.EdgePairs.{flat}
use Rattle.cographic.specs.CographicRows.{AreCographicRows}

-- the line of a pair of edges has their rows
abbrev pub pair_line : Matrix → ℕ × ℕ → List ℕ × List ℕ
pair_line m p = (slice_index_or m.rows p.0 [], slice_index_or m.rows p.1 [])

-- the line of each pair, in order
abbrev pub pairs_problem : Matrix → List (ℕ × ℕ) → ParityProblem
pairs_problem m P = record { dimension = m.width; lines = map (pair_line m) P }

-- p is the problem of all pairs of edges with a common end, in lexicographic order
pub record IsGenusProblem (S : Scalars) (E : List (ℕ × ℕ)) (p : ParityProblem) : Type 0 where
  pub matrix : Matrix
  pub rows : AreCographicRows S E matrix
  pub pairs : List (ℕ × ℕ)
  pub adjacent : AreAdjacentPairs E pairs
  pub problem : p ≡ pairs_problem matrix pairs

-- P is true of the problem of the graph's pairs
pub record OfGenusProblem (S : Scalars) (E : List (ℕ × ℕ)) (P : ParityProblem → Type 0) : Type 0 where
  pub problem : ParityProblem
  pub is_problem : IsGenusProblem S E problem
  pub so : P problem

-- the pairs at these positions
abbrev pub pairs_at : List (ℕ × ℕ) → List ℕ → List (ℕ × ℕ)
pairs_at P M = map (λ i. slice_index_or P i (0, 0)) M

-- both edges of each of them
abbrev pub edges_of : List (ℕ × ℕ) → List ℕ → List ℕ
edges_of P M = flat (pairs_at P M)

-- Triples of vertices as lists, and sets of lines of the problem of a graph's triangles.
use Rattle.std.specs.Prelude.{◌≡◌, ℕ, List, map, slice_index}
use Rattle.graph_theory.specs.Cacti.{corners, IsLexicographic}
use Rattle.graph_problems.specs.GraphLines.{IsCactusProblem}
use Rattle.linear_algebra.specs.Scalars.{Scalars}
use Rattle.parity_lines.specs.Problems.{ParityProblem}

-- the lists are the corners of triples in lexicographic order, of which P is true
pub record AreCorners (P : List (ℕ × ℕ × ℕ) → Type 0) (lists : List (List ℕ)) : Type 0 where
  pub triples : List (ℕ × ℕ × ℕ)
  pub are : P triples
  pub ordered : IsLexicographic triples
  pub corners_of : lists ≡ map corners triples

-- P is true of the problem of the graph's triangles
pub record OfCactusProblem (S : Scalars) (n : ℕ) (E : List (ℕ × ℕ)) (P : ParityProblem → Type 0) : Type 0 where
  pub problem : ParityProblem
  pub is_problem : IsCactusProblem S n E problem
  pub so : P problem

-- the first three vertices of a list
abbrev pub triple_of : List ℕ → ℕ × ℕ × ℕ
triple_of vs = (slice_index vs 0, slice_index vs 1, slice_index vs 2)

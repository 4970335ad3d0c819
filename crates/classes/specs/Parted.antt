-- A vector that is spanned by the lines of a set, in two parts: at the lines of one class, and at the others.
use Rattle.std.specs.Prelude.{◌≡◌, ℕ, List, slice_index}
use Rattle.vector_spaces.proofs.Tuples.{Tuple}
use Rattle.class_theory.proofs.Classes.{of_label}
use Rattle.class_theory.proofs.LastExchanges.{LastInvariant}
use Rattle.linear_algebra.specs.Scalars.{Scalars, IsField}
use Rattle.linear_algebra.specs.Vectors.{IsVector}
use Rattle.linear_algebra.proofs.Coordinates.{tuple, space}
use Rattle.linear_algebra.proofs.Elements.{Element}
use Rattle.parity_lines.proofs.Border.{tuples_at}
use Rattle.parity_lines.specs.Problems.{ParityProblem}

-- M misses o. The lines of M with the label c span the part u of the vector v, and the other lines of M the rest
pub record IsParted (S : Scalars) (F : IsField S) (p : ParityProblem) (labels : List ℕ) (c : ℕ) (o v u M : List ℕ) : Type 0 where
  pub is_vector : IsVector S p.dimension v
  pub part : IsVector S p.dimension u
  pub rest : Tuple (Element S) p.dimension
  pub invariant : LastInvariant (space S F p.dimension) (tuples_at S F p) M (of_label (slice_index labels) c) (tuple S F p.dimension o)
      (tuple S F p.dimension u) rest
  pub sum : (space S F p.dimension).◌⊕◌ (tuple S F p.dimension u) rest ≡ tuple S F p.dimension v

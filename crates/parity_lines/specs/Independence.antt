-- What is told of a set of lines.
use Rattle.std.specs.Prelude.{◌≡◌, ℕ, ◌<◌, List, length, slice_index}
use Rattle.linear_algebra.specs.Scalars.{Scalars}
use Rattle.linear_algebra.specs.Vectors.{zero_vector}
use Rattle.linear_algebra.specs.Spans.{Combines, IsIndependent}
use Rattle.parity_lines.specs.Problems.{ParityProblem, vectors_at}
use Rattle.parity_lines.specs.declared.independence.Independence.{Independence}
use Rattle.parity_lines.specs.declared.independence.Independence.TheVariants.{Independent, Relation}
use Rattle.parity_lines.specs.declared.independence.LineBasis.{LineBasis}
use Rattle.parity_lines.specs.declared.independence.LineBasis.TheVariants as line_basis
use Rattle.parity_lines.specs.declared.independence.LineBasis.TheVariants.{Basis}

-- cs combine the vectors to zero, and the first of them that isn't zero is one
pub record IsRelation (S : Scalars) (d : ℕ) (vs : List (List ℕ)) (cs : List ℕ) : Type 0 where
  pub combines : Combines S d vs cs (zero_vector S d)
  pub lead : ℕ
  pub within : lead < length cs
  pub one : slice_index cs lead ≡ S.one
  pub zero_before : (k : ℕ) → k < lead → slice_index cs k ≡ S.zero

-- independent, or a relation of the vectors, two a line
abbrev pub TellsIndependence : {X : Type 0} → Scalars → ParityProblem → List ℕ → Independence X → Type 0
TellsIndependence S p L Independent = IsIndependent S p.dimension (vectors_at p L)
TellsIndependence S p L (Relation cs) = IsRelation S p.dimension (vectors_at p L) cs

-- a basis that took the vectors, which are independent, or a relation of them
abbrev pub TellsBasis : {X : Type 0} → Scalars → ParityProblem → List ℕ → LineBasis X → Type 0
TellsBasis S p L (Basis basis) = IsIndependent S p.dimension (vectors_at p L) × (basis ≡ record { width = p.dimension; rows = vectors_at p L })
TellsBasis S p L (line_basis.Relation cs) = IsRelation S p.dimension (vectors_at p L) cs

-- The residue of a vector modulo the span of a list.
use Rattle.std.specs.Prelude.{◌≡◌, ℕ, List, slice_index}
use Rattle.linear_algebra.specs.Scalars.{Scalars}
use Rattle.linear_algebra.specs.Vectors.{IsVector, vector_sum}
use Rattle.linear_algebra.specs.Spans.{InSpan}
use Rattle.echelon.specs.Leads.{LeadsAt}

-- some vector of the span leads at p
pub record IsLeading (S : Scalars) (d : ℕ) (vs : List (List ℕ)) (p : ℕ) : Type 0 where
  pub leader : List ℕ
  pub vector : IsVector S d leader
  pub in_span : InSpan S d vs leader
  pub leads : LeadsAt S leader p

-- w is v plus an element of the span, and zero wherever vectors of the span lead
pub record IsResidue (S : Scalars) (d : ℕ) (vs : List (List ℕ)) (v w : List ℕ) : Type 0 where
  pub vector : IsVector S d w
  pub added : List ℕ
  pub in_span : InSpan S d vs added
  pub sum : w ≡ vector_sum S v added
  pub reduced : (p : ℕ) → IsLeading S d vs p → slice_index w p ≡ S.zero

-- v is w plus an element of the span
pub record IsCongruent (S : Scalars) (d : ℕ) (vs : List (List ℕ)) (v w : List ℕ) : Type 0 where
  pub added : List ℕ
  pub in_span : InSpan S d vs added
  pub sum : v ≡ vector_sum S w added

-- What a line is seen to be from the coordinates: which of its vectors is the outer, and the tip as the other less a multiple of it.
use Rattle.std.specs.Prelude.{◌≡◌, ℕ, ◌+◌, ◌*◌, ◌<◌, List, Bool, if◌then◌else◌, length, slice_index}
use Rattle.linear_algebra.specs.Scalars.{Scalars}
use Rattle.linear_algebra.specs.Spans.{Combines}
use Rattle.linear_algebra.specs.Vectors.{multiple, vector_sum}
use Rattle.matching_state.specs.DirectSteps.{HasDeterminantAt}
use Rattle.matching_state.specs.LinePlaces.{IsExposed, IsOuter, IsTip, own_rank, rank_beside}
use Rattle.matching_state.specs.declared.sights.Exposed.{Exposed}
use Rattle.matching_state.specs.declared.sights.Sight.{Sight}
use Rattle.matching_state.specs.declared.sights.Sight.TheVariants as sight
use Rattle.parity_lines.specs.Problems.{ParityProblem, line_at, vectors_at}

-- the vector of the line e that is the outer, and the other one
abbrev pub outer_of : ParityProblem → ℕ → Bool → List ℕ
outer_of p e second = if second then (line_at p e).1 else (line_at p e).0

abbrev pub other_of : ParityProblem → ℕ → Bool → List ℕ
other_of p e second = if second then (line_at p e).0 else (line_at p e).1

-- rest has the coordinates cs over the vectors of M, and with `factor` times the outer it makes the other vector
pub record IsRest (S : Scalars) (p : ParityProblem) (M : List ℕ) (e : ℕ) (second : Bool) (factor : ℕ) (rest cs : List ℕ) : Type 0 where
  pub combines : Combines S p.dimension (vectors_at p M) cs rest
  pub sum : vector_sum S rest (multiple S factor (outer_of p e second)) ≡ other_of p e second

-- one vector of the line is an outer, and a multiple of it can be taken from the other one to leave a vector of the span
pub record HasRest {X : Type 0} (S : Scalars) (number : X → ℕ) (p : ParityProblem) (M : List ℕ) (x : Exposed X) : Type 0 where
  pub within : x.line < length p.lines
  pub outer : IsOuter S p M x.line (outer_of p x.line x.second)
  pub tip : List ℕ
  pub coordinates : List ℕ
  pub rest : IsRest S p M x.line x.second (number x.factor) tip coordinates

-- the line is exposed, one of its vectors is an outer, and the tip is the other less a multiple of it
pub record IsSeen {X : Type 0} (S : Scalars) (number : X → ℕ) (p : ParityProblem) (M : List ℕ) (x : Exposed X) : Type 0 where
  pub within : x.line < length p.lines
  pub exposed : IsExposed S p M x.line
  pub outer : IsOuter S p M x.line (outer_of p x.line x.second)
  pub tip : List ℕ
  pub coordinates : List ℕ
  pub tip_is : IsTip S p M x.line tip coordinates
  pub rest : IsRest S p M x.line x.second (number x.factor) tip coordinates

-- by both ranks
abbrev pub IsSight : {X : Type 0} → Scalars → (X → ℕ) → ParityProblem → List ℕ → ℕ → Sight X → Type 0
IsSight S number p M e sight.Inside = rank_beside S p M e ≡ 0
IsSight S number p M e (sight.Single x) =
    (x.line ≡ e) × (rank_beside S p M e ≡ 1) × (own_rank S p e ≡ 1) × IsOuter S p M e (outer_of p e x.second)
IsSight S number p M e (sight.Exposed x) = (x.line ≡ e) × IsSeen S number p M x
IsSight S number p M e sight.Free = rank_beside S p M e ≡ 2

-- the pair of cs at the index i
abbrev pub HasPairAt : List ℕ → ℕ → ℕ → ℕ → Type 0
HasPairAt cs i a b = (slice_index cs (2 * i) ≡ a) × (slice_index cs (2 * i + 1) ≡ b)

-- the pairs of the tips of x and y at the index i have a determinant that isn't zero
pub record Cross {X : Type 0} (S : Scalars) (number : X → ℕ) (p : ParityProblem) (M : List ℕ) (x y : Exposed X) (i : ℕ) : Type 0 where
  pub tip : List ℕ
  pub coordinates : List ℕ
  pub rest : IsRest S p M x.line x.second (number x.factor) tip coordinates
  pub other_tip : List ℕ
  pub other_coordinates : List ℕ
  pub other_rest : IsRest S p M y.line y.second (number y.factor) other_tip other_coordinates
  pub determinant : HasDeterminantAt S coordinates other_coordinates i

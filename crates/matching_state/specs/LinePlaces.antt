-- The place of a line over an independent set of lines.
use Rattle.std.specs.Prelude.{◌≡◌, ◌≢◌, ℕ, List, [], ◌∷◌}
use Rattle.linear_algebra.specs.Scalars.{Scalars}
use Rattle.linear_algebra.specs.Vectors.{zero_vector}
use Rattle.linear_algebra.specs.Spans.{Combines, InSpan}
use Rattle.linear_algebra.specs.Ranks.{rank, rank_over}
use Rattle.matching_state.specs.Supports.{IsSupport}
use Rattle.matching_state.specs.declared.place.Place.{Place}
use Rattle.matching_state.specs.declared.place.Place.TheVariants.{Inside, Single, Exposed, Free}
use Rattle.parity_lines.specs.Problems.{ParityProblem, vectors_at}

-- the rank that the line e adds to the vectors of M, and its own rank
abbrev pub rank_beside : Scalars → ParityProblem → List ℕ → ℕ → ℕ
rank_beside S p M e = rank_over S p.dimension (vectors_at p M) (vectors_at p (e ∷ []))

abbrev pub own_rank : Scalars → ParityProblem → ℕ → ℕ
own_rank S p e = rank S p.dimension (vectors_at p (e ∷ []))

-- x is a vector of the span of e, and of that of M
abbrev pub InLine : Scalars → ParityProblem → ℕ → List ℕ → Type 0
InLine S p e x = InSpan S p.dimension (vectors_at p (e ∷ [])) x

abbrev pub InSet : Scalars → ParityProblem → List ℕ → List ℕ → Type 0
InSet S p M x = InSpan S p.dimension (vectors_at p M) x

-- the vector outer of the span of e is outside that of M
pub record IsOuter (S : Scalars) (p : ParityProblem) (M : List ℕ) (e : ℕ) (outer : List ℕ) : Type 0 where
  pub in_line : InLine S p e outer
  pub outside : ¬ (InSet S p M outer)

-- the vector tip of the span of e is in that of M, where it has the coordinates cs, and isn't zero
pub record IsTip (S : Scalars) (p : ParityProblem) (M : List ℕ) (e : ℕ) (tip cs : List ℕ) : Type 0 where
  pub in_line : InLine S p e tip
  pub combines : Combines S p.dimension (vectors_at p M) cs tip
  pub not_zero : tip ≢ zero_vector S p.dimension

-- e adds one to the rank of M, and has rank two of its own
pub record IsExposed (S : Scalars) (p : ParityProblem) (M : List ℕ) (e : ℕ) : Type 0 where
  pub beside : rank_beside S p M e ≡ 1
  pub own : own_rank S p e ≡ 2

-- the place, by both ranks: a single line has a vector outside the span of M, an exposed line a tip with its support and an outer
abbrev pub IsPlace : {X : Type 0} → Scalars → ParityProblem → List ℕ → ℕ → Place X → Type 0
IsPlace S p M e Inside = rank_beside S p M e ≡ 0
IsPlace S p M e (Single outer) = (rank_beside S p M e ≡ 1) × (own_rank S p e ≡ 1) × IsOuter S p M e outer
IsPlace S p M e (Exposed tip outer support) = IsExposed S p M e × IsOuter S p M e outer × ((cs : List ℕ) × IsTip S p M e tip cs × IsSupport S M cs support)
IsPlace S p M e Free = rank_beside S p M e ≡ 2

-- Projections and lifts at the first coordinate at which the point isn't zero.
use Rattle.std.specs.Prelude.{◌≡◌, ℕ, List}
use Rattle.linear_algebra.specs.Scalars.{Scalars}
use Rattle.quotient_spaces.specs.Projections.{IsFirstPivot, IsProjection, lifted}

-- w is v modulo the point
pub record ProjectsBy (S : Scalars) (point v w : List ℕ) : Type 0 where
  pub pivot : ℕ
  pub first : IsFirstPivot S point pivot
  pub projection : IsProjection S point pivot v w

-- v is w with zero put in
pub record LiftsBy (S : Scalars) (point w v : List ℕ) : Type 0 where
  pub pivot : ℕ
  pub first : IsFirstPivot S point pivot
  pub lift : v ≡ lifted S pivot w

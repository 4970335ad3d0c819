-- Overlaps: two exposed lines whose outers are independent modulo an independent set, and whose supports have a common line.
use Rattle.std.specs.Prelude.{◌≡◌, ℕ, List, [], ◌∷◌}
use Rattle.linear_algebra.specs.Scalars.{Scalars}
use Rattle.linear_algebra.specs.Ranks.{rank_over}
use Rattle.matching_state.specs.LinePlaces.{IsExposed, IsTip}
use Rattle.matching_state.specs.Supports.{HasComponent}
use Rattle.parity_lines.specs.Problems.{ParityProblem, vectors_at}

-- some tip of e has a component at the line m of M
abbrev pub InSupport : Scalars → ParityProblem → List ℕ → ℕ → ℕ → Type 0
InSupport S p M e m = (tip : List ℕ) × (cs : List ℕ) × IsTip S p M e tip cs × HasComponent S M cs m

-- both lines together add two to the rank of M, each of them one, and some tips have components at the same line
pub record IsOverlap (S : Scalars) (p : ParityProblem) (M : List ℕ) (e h : ℕ) : Type 0 where
  pub first : IsExposed S p M e
  pub second : IsExposed S p M h
  pub apart : rank_over S p.dimension (vectors_at p M) (vectors_at p (e ∷ h ∷ [])) ≡ 2
  pub line : ℕ
  pub first_support : InSupport S p M e line
  pub second_support : InSupport S p M h line

-- coordinates over M with a component at the same line
abbrev pub HaveCommonComponent : Scalars → List ℕ → List ℕ → List ℕ → Type 0
HaveCommonComponent S M cs ds = (m : ℕ) × HasComponent S M cs m × HasComponent S M ds m

-- What the lines of a target offer: a line that is free, or an exchange.
use Rattle.std.specs.Prelude.{◌≡◌, ◌≢◌, ◌⊎◌, ℕ, List, Option, None, Some}
use Rattle.std.specs.List.{Contains}
use Rattle.linear_algebra.specs.Scalars.{Scalars}
use Rattle.linear_algebra.specs.Spans.{InSpan}
use Rattle.exchanges.specs.Exchanges.{CanExchange}
use Rattle.exchanges.specs.declared.offer.Offer.{Offer}
use Rattle.exchanges.specs.declared.offer.Offer.TheVariants.{Line, Exchange}
use Rattle.matching_state.specs.LinePlaces.{rank_beside}
use Rattle.parity_lines.specs.Problems.{ParityProblem}

-- a line of T that is free over M, or an exchange for a line that vs don't span
abbrev pub IsOffer : Scalars → ParityProblem → List (List ℕ) → List ℕ → List ℕ → Offer → Type 0
IsOffer S p vs T M (Line l) = Contains T l × (rank_beside S p M l ≡ 2)
IsOffer S p vs T M (Exchange out into) = CanExchange S p vs T M out into

-- the line l isn't free, and there is no such exchange for it
pub record OffersNothing (S : Scalars) (p : ParityProblem) (vs : List (List ℕ)) (T M : List ℕ) (l : ℕ) : Type 0 where
  pub not_free : rank_beside S p M l ≢ 2
  pub no_exchange : (out : ℕ) → ¬ (CanExchange S p vs T M out l)

-- a line of L that is none of T, where vs don't span the vector outer
abbrev pub TellsLineOut : Scalars → ℕ → List (List ℕ) → List ℕ → List ℕ → List ℕ → Option ℕ → Type 0
TellsLineOut S d vs T outer L (Some out) = ¬ (InSpan S d vs outer) × Contains L out × ¬ (Contains T out)
TellsLineOut S d vs T outer L None = InSpan S d vs outer ⊎ ((m : ℕ) → Contains L m → Contains T m)
